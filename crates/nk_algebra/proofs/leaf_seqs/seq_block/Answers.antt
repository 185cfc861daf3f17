use Rattle.std.proofs.Common.{◌-◌}
use Rattle.std.proofs.lemmas.Result.{IfOk-weaker}
use Rattle.nk_apply.specs.Seqs.{outs_of}
use Rattle.nk_algebra.proofs.LeavesAtOnce.{both_suit, both_leaf, made_of_leaves}
use Rattle.nk_algebra.proofs.leaf_seqs.seq_block.Goals as goal

pub leaf-requires : goal.leaf-requires
leaf-requires c =
    both_suit c.args.st.now c.args.a c.args.b c.args.from (c.args.to - c.args.from) c.in_ok-outs.outs c.laws.ensures.nodes c.laws.ensures.tidy
    c.requires.left c.requires.right c.requires.left_leaf c.requires.right_leaf
    (made_of_leaves c.outs_at.result.now (outs_of c.args.st.now c.args.a) c.outs_at-2.result.now (outs_of c.args.st.now c.args.b) c.in_ok-outs.outs c.args.from (c.args.to - c.args.from) c.outs_at.ensures c.outs_at-2.ensures c.in_ok-outs.ensures)

pub returns-clause-ok : goal.returns-clause-ok
returns-clause-ok c = IfOk-weaker c.leaf.result _ _
    (λ d h. both_leaf c.args.st.now c.leaf.new.self c.args.a c.args.b c.args.from (c.args.to - c.args.from) c.in_ok-outs.outs h.0 d
    c.laws.ensures.nodes c.requires.right c.requires.right_leaf
    (made_of_leaves c.outs_at.result.now (outs_of c.args.st.now c.args.a) c.outs_at-2.result.now (outs_of c.args.st.now c.args.b) c.in_ok-outs.outs c.args.from (c.args.to - c.args.from) c.outs_at.ensures c.outs_at-2.ensures c.in_ok-outs.ensures) h.1 h.2) c.leaf.ensures.ok
