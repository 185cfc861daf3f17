use Rattle.std.proofs.Common.{◌≡◌, ◌<◌, ◌+◌, ◌++◌, ◌∙◌, sym, ap, subst, arith, length, drop}
use Rattle.std.specs.Prelude.{slice_set}
use Rattle.std.proofs.lemmas.List.{get_or_default}
use Rattle.nk_policy.specs.Policy.{dups_of}
use Rattle.nk_policy.specs.Tree.{tree_of}
use Rattle.nk_store.proofs.InRange.{over_grown}
use Rattle.nk_store.proofs.Stores.{grows_on}
use Rattle.nk_auto.specs.Automaton.{IsAutomaton}
use Rattle.nk_auto.specs.Continued.{IsFit}
use Rattle.nk_cert.proofs.Beside.{both_are}
use Rattle.nk_cert.proofs.pairing.automaton_of_both.Goals as goal

pub returns-clause-ok : goal.returns-clause-ok
returns-clause-ok c = λ fields over.
    let p = tree_of c.args.p.now in
    let q = tree_of c.args.q.now in
    let of_left = c.in_ok-states.states in
    let of_right = c.in_ok-others.others in
    let al : IsAutomaton c.policy_automaton.new.st of_left 1 p = c.in_ok-states.ensures.ok c.requires.left_fit in
    let fit : IsFit c.policy_automaton.new.st.maxes q = subst (λ m. IsFit m q) (sym c.policy_automaton.ensures.grows.maxes) c.requires.right_fit in
    let count : c.len.result ≡ 1 + dups_of p = omega (arith, c.len.ensures, al.count) in
    let ar : IsAutomaton c.policy_automaton-2.new.st of_right (1 + dups_of p) q = subst (λ n. IsAutomaton c.policy_automaton-2.new.st of_right n q) count (c.in_ok-others.ensures.ok fit) in
    let some_left : 0 < length of_left = omega (arith, al.count) in
    let some_right : 0 < length of_right = omega (arith, ar.count) in
    both_are fields c.policy_automaton.new.st c.policy_automaton-2.new.st c.union.new.st of_left of_right c.push_rest.new.states c.at-left.result.now c.at-right.result.now c.in_ok-start.start p q
    (over_grown fields c.args.st.now c.union.new.st over (grows_on _ _ _ c.policy_automaton.ensures.grows (grows_on _ _ _ c.policy_automaton-2.ensures.grows c.union.ensures.grows)))
    c.laws.ensures.tidy
    (record { left = c.requires.left; right = c.requires.right })
    al c.policy_automaton-2.ensures.grows ar c.union.ensures.grows
    (c.at-left.ensures ∙ get_or_default of_left 0 c.at-left.result.now 0 some_left)
    (c.at-right.ensures ∙ get_or_default of_right 0 c.at-right.result.now 0 some_right)
    c.in_ok-start.ensures.ok
    (c.in_ok-push_rest.ensures
    ∙ ap (λ r. r ++ drop 1 c.as_slice.result.now) c.put.ensures
    ∙ ap (λ r. slice_set of_left 0 c.in_ok-start.start ++ drop 1 r) c.as_slice.ensures)
