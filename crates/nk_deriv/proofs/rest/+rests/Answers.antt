use Rattle.std.proofs.Common.{◌≡◌, sym, ap, subst, ◌∙◌, rules, arith}
use Rattle.nk_policy.specs.Policy.{numbers_of, star_of, dups_of, MarksBelow}
use Rattle.nk_policy.specs.Tree.{tree_of, trees_of}
use Rattle.nk_policy.specs.After.{after}
use Rattle.nk_policy.specs.Distinct.{HasDistinct}
use Rattle.nk_policy.specs.declared.policy.Pol.TheViews.{the_lemmas}
use Rattle.nk_deriv.specs.Part.{NegatesPredicates, IsPartOfDerivative}
use Rattle.nk_deriv.specs.Turns.{IsSequencedBefore, ArePartsOf, AreRests}
use Rattle.nk_deriv.proofs.Collected.{sum_tree, seq_tree}
use Rattle.nk_deriv.proofs.Rests.{rests_not, rests_as_tree, rests_star, rests_dup, rests_link}
use Rattle.nk_deriv.proofs.Loops.{resting_none, sum_next, seq_next, seq_silent, resting_done, parts_many}
use Rattle.nk_deriv.proofs.rest.+rests.Goals as goal
use Rattle.nk_deriv.proofs.rest.+rests.Goals.{rests_in_turn-then-count-gt0+in_ok-following+in_ok-rests, rests_in_turn-else-count-gt0}

pub rests-rests_of_any-requires : goal.rests-rests_of_any-requires
rests-rests_of_any-requires t c =
    let e = sym (sum_tree _ c.in-Sum.ps _ c.in-Sum.is c.as_slice-terms.ensures) in
    (search (rules, the_lemmas), (subst HasDistinct e c.requires.distinct, (subst NegatesPredicates e c.requires.complements, subst (λ p. MarksBelow p 4294967295) e c.requires.fit)))

pub rests-rests_in_turn-requires : goal.rests-rests_in_turn-requires
rests-rests_in_turn-requires t c =
    let e = sym (seq_tree _ c.in-Seq.ps _ c.in-Seq.is c.as_slice-members.ensures) in (
      search (rules, the_lemmas),
      (
        subst HasDistinct e c.requires.distinct,
        (
          subst NegatesPredicates e c.requires.complements,
          (
            subst (λ p. MarksBelow p 4294967295) e c.requires.fit,
            subst (λ s. ArePartsOf s (trees_of c.as_slice-members.result.now)) (sym c.as_slice-turns.ensures) c.in_ok-states-in-Seq.ensures,
          ),
        ),
      ),
    )

pub rests-returns-in-Not : goal.rests-returns-in-Not
rests-returns-in-Not t c = rests_not _ _ _ _ (sym (ap tree_of c.in-Not.is)) c.requires.complements

pub rests-returns-in_ok-rests-in-Star : goal.rests-returns-in_ok-rests-in-Star
rests-returns-in_ok-rests-in-Star t c =
    let e = ap tree_of c.in-Star.is ∙ ap (λ x. star_of (tree_of x)) (sym c.deref.ensures) in
    rests_as_tree _ _ _ _ _ (sym e)
    (rests_star _ _ c.in_ok-star-in-Star.star _ c.in_ok-again-in-Star.again (tree_of c.deref.result.now)
    (subst (IsPartOfDerivative c.in_ok-star-in-Star.star) e c.in_ok-star-in-Star.ensures)
    (subst (λ s. IsSequencedBefore c.in_ok-again-in-Star.again s c.args.next.now) c.from_ref.ensures.value c.in_ok-again-in-Star.ensures)
    c.in_ok-rests-in-Star.ensures)

pub rests-returns-in_ok-push_next-in-Dup : goal.rests-returns-in_ok-push_next-in-Dup
rests-returns-in_ok-push_next-in-Dup t c =
    rests_as_tree _ _ _ _ _ (sym (ap tree_of c.in-Dup.is))
    (rests_dup _ _ _ c.in_ok-push_next-in-Dup.ensures.0 _ c.in_ok-push_next-in-Dup.ensures.1 c.in_ok-push_next-in-Dup.ensures.2)

pub rests-returns-in_ok-push_next-in-Link : goal.rests-returns-in_ok-push_next-in-Link
rests-returns-in_ok-push_next-in-Link t c =
    rests_as_tree _ _ _ _ _ (sym (ap tree_of c.in-Link.is))
    (rests_link _ c.push.new.self _ _ c.in_ok-crossing-in-Link.crossing c.in_ok-push_next-in-Link.ensures.0 c.in_ok-crossing-in-Link.ensures.legs.0 c.in-Link.field-0 c.in-Link.field-1 c.in-Link.b c.in-Link.n c.in-Link.l
    c.in_ok-push-in-Link.ensures.ok c.in_ok-push_next-in-Link.ensures.1
    c.in_ok-crossing-in-Link.ensures.free c.in_ok-crossing-in-Link.ensures.legs.1 c.in_ok-crossing-in-Link.ensures.legs.2 c.in_ok-push_next-in-Link.ensures.2)

pub rests_of_any-loop-q-init : goal.rests_of_any-loop-q-init
rests_of_any-loop-q-init t c =
    resting_none _ _ _ _ record { distinct = c.requires.distinct; complements = c.requires.complements; fit = c.requires.fit }

pub rests_of_any-loop-q-preserved : goal.rests_of_any-loop-q-preserved
rests_of_any-loop-q-preserved t c =
    sum_next _ c.loop-q.out _ _ c.q-item.result c.args.ps.now _ c.loop-q-test.true c.q-item.is c.in_ok-rests.ensures c.loop-q.invariant

pub rests_of_any-returns : goal.rests_of_any-returns
rests_of_any-returns t c = resting_done _ _ _ _ _ _ c.loop-q-test.false c.loop-q.invariant

pub rests_in_turn-loop-i-init : goal.rests_in_turn-loop-i-init
rests_in_turn-loop-i-init t c =
    resting_none _ _ _ _ record { distinct = c.requires.distinct; complements = c.requires.complements; fit = c.requires.fit }

pub rests_in_turn-states_from-later-requires : goal.rests_in_turn-states_from-later-requires
rests_in_turn-states_from-later-requires t c =
    omega (arith, parts_many c.args.states.now c.args.ps.now c.requires.states, c.loop-i-test.true)

pub rests_in_turn-loop-i-preserved : goal.rests_in_turn-loop-i-preserved
rests_in_turn-loop-i-preserved t c =
    elim c.if-count-gt0.branch [
      | rests_in_turn-then-count-gt0+in_ok-following+in_ok-rests w ↦
          seq_next _ c.loop-i.out _ _ w.in_ok-following.following c.args.states.now _ c.index-ps-i.result c.args.ps.now _ c.loop-i-test.true c.index-ps-i.is c.requires.states
          w.states_from-later.ensures w.in_ok-following.ensures
          (subst (λ o. AreRests c.loop-i.out o (after (tree_of c.index-ps-i.result)) (numbers_of (tree_of c.index-ps-i.result)) w.in_ok-following.following) (sym w.out-is) w.in_ok-rests.ensures)
          c.loop-i.invariant
      | rests_in_turn-else-count-gt0 w ↦
          let none : dups_of (tree_of c.index-ps-i.result) ≡ 0 = omega (arith, w.if-count-gt0.false, c.dups-count.ensures) in
          seq_silent _ c.loop-i.out _ _ c.index-ps-i.result c.args.ps.now _ c.loop-i-test.true c.index-ps-i.is none w.out-is c.loop-i.invariant
    ]
