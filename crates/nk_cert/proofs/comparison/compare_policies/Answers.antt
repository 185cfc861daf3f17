use Rattle.std.proofs.lemmas.Result.{IfOk-weaker}
use Rattle.nk_policy.specs.Policy.{marked_from}
use Rattle.nk_policy.specs.Tree.{tree_of}
use Rattle.nk_names.proofs.Good.{over_marked, over_in_range, negates_marked}
use Rattle.nk_cert.proofs.Named.{fits_store}
use Rattle.nk_cert.proofs.Comparing.{as_declared}
use Rattle.nk_cert.proofs.comparison.compare_policies.Goals as goal

pub numbered_automaton-requires-clause-left_fit : goal.numbered_automaton-requires-clause-left_fit
numbered_automaton-requires-clause-left_fit c =
    fits_store c.args.fields.now c.in_ok-st.st c.in_ok-st.ensures.over (tree_of c.args.p.now) c.requires.left_complements
    (over_in_range c.args.fields.now (tree_of c.args.p.now) c.requires.left_over)

pub numbered_automaton-requires-clause-right_fit : goal.numbered_automaton-requires-clause-right_fit
numbered_automaton-requires-clause-right_fit c =
    let q = tree_of c.args.q.now in
    let n = c.number_after-bound.result in
    fits_store c.args.fields.now c.in_ok-st.st c.in_ok-st.ensures.over (marked_from q n) (negates_marked q n c.requires.right_complements)
    (over_in_range c.args.fields.now (marked_from q n) (over_marked c.args.fields.now q n c.requires.right_over))

pub returns : goal.returns
returns c =
    let fields = c.args.fields.now in
    let p = tree_of c.args.p.now in
    let q = tree_of c.args.q.now in
    let n = c.number_after-bound.result in
    IfOk-weaker c.compare_by_levels.result _ _
    (λ r made.
    as_declared fields p q n r
    (made fields p (marked_from q n) (c.in_ok-both.ensures fields c.in_ok-st.ensures.over) c.number_after-bound.ensures
    (over_in_range fields p c.requires.left_over) (over_in_range fields (marked_from q n) (over_marked fields q n c.requires.right_over))))
    c.compare_by_levels.ensures
