use Rattle.std.proofs.Common.{◌+◌, sym, subst}
use Rattle.std.proofs.lemmas.Result.{IfOk-weaker}
use Rattle.nk_policy.specs.Policy.{dups_of}
use Rattle.nk_policy.specs.Tree.{tree_of}
use Rattle.nk_names.proofs.Good.{over_in_range}
use Rattle.nk_cert.proofs.Named.{fits_store}
use Rattle.nk_difference.specs.Difference.{IsDifferenceOf}
use Rattle.nk_difference.proofs.BothSides.{difference_as_declared}
use Rattle.nk_difference.proofs.sides.difference.Goals as goal

pub owned_automaton-requires-clause-left_fit : goal.owned_automaton-requires-clause-left_fit
owned_automaton-requires-clause-left_fit c =
    fits_store c.args.fields.now c.in_ok-st.st c.in_ok-st.ensures.over (tree_of c.args.p) c.requires.left_complements
    (over_in_range c.args.fields.now (tree_of c.args.p) c.requires.left_over)

pub owned_automaton-requires-clause-right_fit : goal.owned_automaton-requires-clause-right_fit
owned_automaton-requires-clause-right_fit c =
    fits_store c.args.fields.now c.in_ok-st.st c.in_ok-st.ensures.over (tree_of c.args.q) c.requires.right_complements
    (over_in_range c.args.fields.now (tree_of c.args.q) c.requires.right_over)

pub returns : goal.returns
returns c =
    let fields = c.args.fields.now in
    let p = tree_of c.args.p in
    let q = tree_of c.args.q in
    IfOk-weaker c.difference_in.result _ _
    (λ d made r e.
    difference_as_declared fields p r (1 + dups_of p) d
    (subst (λ z. IsDifferenceOf fields p z d) (sym e)
    (made fields p q (c.in_ok-both.ensures.ok fields c.in_ok-st.ensures.over) c.number_after-bound.ensures
    (over_in_range fields p c.requires.left_over) (over_in_range fields q c.requires.right_over))))
    c.difference_in.ensures
