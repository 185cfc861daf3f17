use Rattle.std.proofs.Common.{arith}
use Rattle.std.proofs.lemmas.Result.{IfOk-weaker}
use Rattle.nk_apply.proofs.AtOnce.{turn_suits, turn_leaf}
use Rattle.nk_apply.proofs.many.union_leaves.Goals as goal

pub leaf-requires : goal.leaf-requires
leaf-requires c = turn_suits c.args.st.now c.args.ds.now c.in_ok-outs.outs c.laws.ensures.nodes c.laws.ensures.tidy c.requires.ids c.requires.leaves c.in_ok-outs.ensures

pub returns-clause-ok : goal.returns-clause-ok
returns-clause-ok c = IfOk-weaker c.leaf.result _ _
    (λ d h. turn_leaf c.args.st.now c.leaf.new.self c.args.ds.now c.in_ok-outs.outs h.0 d c.laws.ensures.nodes c.laws.ensures.tidy c.requires.ids c.requires.leaves c.in_ok-outs.ensures h.1 h.2) c.leaf.ensures.ok

pub returns-clause-later : goal.returns-clause-later
returns-clause-later c = IfOk-weaker c.leaf.result _ _ (λ d h. λ p few first. omega (arith, h, few)) c.leaf.ensures.later
