use Rattle.std.proofs.Common.{◌≡◌, ℕ, ◌<◌, List, Option, [], length, arith, sym, ap, subst, drop}
use Rattle.std.specs.Prelude.{IfSome}
use Rattle.std.proofs.lemmas.Bool.Decides.{nat_tests}
use Rattle.std.proofs.lemmas.Option.{IfSome_then}
use Rattle.std.proofs.lemmas.Result.{IfOk-weaker}
use Rattle.nk_policy.specs.Policy.{assign, sum_of, seq_of, no_part, part}
use Rattle.nk_policy.specs.Tree.{tree_of, trees_of}
use Rattle.nk_policy.proofs.Steps.{left_is}
use Rattle.nk_store.specs.StoreState.{HasLeaves}
use Rattle.nk_store.proofs.Stores.{grows_on}
use Rattle.nk_apply.proofs.MadeOf.{on_any}
use Rattle.nk_auto.specs.Continued.{IsSilent}
use Rattle.nk_auto.specs.ByValue.{IsArm, AreArms}
use Rattle.nk_auto.proofs.DrawnAssignments.{assignments_grow, alone_silent}
use Rattle.nk_auto.proofs.ByValue.{Arm, arm_child, arms_grow, arms_more, arms_moved}
use Rattle.nk_auto.proofs.Grown.{leaves_grow}
use Rattle.nk_auto.proofs.Parts.{trees_before}
use Rattle.nk_auto.proofs.Silences.{silent_grow, cons_silent, none_at_place, none_between, not_silent, star_silent}
use Rattle.nk_auto.proofs.Sums.{AreOf, one_more_of, ids_of, sum_silent}
use Rattle.nk_auto.proofs.silence.+silent.Goals as goal

pub silent_any-loop-i-preserved : goal.silent_any-loop-i-preserved
silent_any-loop-i-preserved t c = record {
  grows = grows_on _ _ _ c.loop-i.invariant.grows c.silent.ensures.grows;
  within = omega (arith, c.loop-i.invariant.within);
  made = subst (AreOf IsSilent c.silent.new.st c.push.new.self) (sym (trees_before c.args.ps.now c.loop-i.i c.index-ps-i.result c.loop-i-test.true c.loop-i.invariant.within c.index-ps-i.is))
      (one_more_of IsSilent silent_grow c.loop-i.st c.silent.new.st c.loop-i.ids c.push.new.self (trees_of (drop c.loop-i.i c.args.ps.now)) c.in_ok-d.d (tree_of c.index-ps-i.result) c.silent.ensures.grows c.in_ok-push.ensures.ok c.loop-i.invariant.made c.in_ok-d.ensures.ok);
}

pub silent_any-returns-in-Some-clause-ok : goal.silent_any-returns-in-Some-clause-ok
silent_any-returns-in-Some-clause-ok t c =
    subst (λ (o : Option ℕ). IfSome o (λ d. IsSilent c.tests_together.new.st d (sum_of (trees_of c.args.ps.now)))) c.in-Some.is c.in_ok-together.ensures.ok

pub silent_any-union_all-requires : goal.silent_any-union_all-requires
silent_any-union_all-requires t c =
    ids_of IsSilent (λ st d p h. h.id) c.loop-i.st c.loop-i.ids c.as_slice.result.now (trees_of (drop c.loop-i.i c.args.ps.now)) c.as_slice.ensures c.loop-i.invariant.made

pub silent_any-returns-clause-ok : goal.silent_any-returns-clause-ok
silent_any-returns-clause-ok t c =
    let zero_is : c.loop-i.i ≡ 0 = omega (arith, c.loop-i-test.false) in
    let made : AreOf IsSilent c.loop-i.st c.loop-i.ids (trees_of c.args.ps.now) = subst (λ n. AreOf IsSilent c.loop-i.st c.loop-i.ids (trees_of (drop n c.args.ps.now))) zero_is c.loop-i.invariant.made in
    IfOk-weaker c.union_all.result _ _
    (λ r united. sum_silent c.loop-i.st c.union_all.new.st c.loop-i.ids c.as_slice.result.now (trees_of c.args.ps.now) r c.as_slice.ensures c.union_all.ensures.grows made united)
    c.union_all.ensures.ok

pub silent_from-loop-i-preserved : goal.silent_from-loop-i-preserved
silent_from-loop-i-preserved t c = record {
  grows = grows_on _ _ _ c.loop-i.invariant.grows (grows_on _ _ _ c.silent.ensures.grows c.ended_then.ensures.grows);
  within = omega (arith, c.loop-i.invariant.within);
  least = omega (arith, c.loop-i-test.true);
  nothing = leaves_grow c.loop-i.st c.ended_then.new.st c.in_ok-nothing.nothing (λ pk. []) (grows_on _ _ _ c.silent.ensures.grows c.ended_then.ensures.grows) c.loop-i.invariant.nothing;
  rest =
      let following = silent_grow c.loop-i.st c.silent.new.st c.loop-i.rest (seq_of (trees_of (drop c.loop-i.i c.args.ps.now))) c.silent.ensures.grows c.loop-i.invariant.rest in
      subst (λ ps. IsSilent c.ended_then.new.st c.in_ok-rest-2.rest (seq_of ps)) (sym (trees_before c.args.ps.now c.loop-i.i c.index-ps-i.result (omega (arith, c.loop-i-test.true)) c.loop-i.invariant.within c.index-ps-i.is))
      (cons_silent c.silent.new.st c.ended_then.new.st c.in_ok-d.d c.loop-i.rest c.in_ok-rest-2.rest (tree_of c.index-ps-i.result) (trees_of (drop c.loop-i.i c.args.ps.now)) c.laws.ensures.tidy c.ended_then.ensures.grows c.in_ok-d.ensures.ok following c.in_ok-rest-2.ensures.ok);
}

pub silent_from-returns-then-eq-clause-ok : goal.silent_from-returns-then-eq-clause-ok
silent_from-returns-then-eq-clause-ok t c =
    let same : c.loop-i.rest ≡ c.in_ok-nothing.nothing = grind (arith, nat_tests, c.eq.ensures, c.if-eq.true) in
    none_between c.loop-i.st c.loop-i.rest c.args.ps.now c.args.from c.loop-i.i c.loop-i.invariant.least (subst (λ d. HasLeaves c.loop-i.st d (λ pk. [])) (sym same) c.loop-i.invariant.nothing) c.loop-i.invariant.rest

pub silent_from-returns-clause-ok : goal.silent_from-returns-clause-ok
silent_from-returns-clause-ok t c =
    let is : c.loop-i.i ≡ c.args.from = omega (arith, c.loop-i-test.false, c.loop-i.invariant.least) in
    subst (λ n. IsSilent c.loop-i.st c.loop-i.rest (seq_of (trees_of (drop n c.args.ps.now)))) is c.loop-i.invariant.rest

pub always_records-returns-clause-ok : goal.always_records-returns-clause-ok
always_records-returns-clause-ok t c = λ e.
    let same : c.in_ok-d.d ≡ c.args.nothing = grind (arith, nat_tests, c.eq.ensures, e) in
    let none = leaves_grow c.args.st.now c.silent.new.st c.args.nothing (λ pk. []) c.silent.ensures.grows c.requires in
    none_at_place c.silent.new.st c.args.nothing c.args.ps.now c.in-Some.k c.index-ps-k.result c.in-Some.ensures c.index-ps-k.is none
    (subst (λ d. IsSilent c.silent.new.st d (tree_of c.index-ps-k.result)) same c.in_ok-d.ensures.ok)

pub silent_any-returns-in-Some-2-clause-ok : goal.silent_any-returns-in-Some-2-clause-ok
silent_any-returns-in-Some-2-clause-ok t c =
    subst (λ (o : Option ℕ). IfSome o (λ d. IsSilent c.choice_of.new.st d (sum_of (trees_of c.args.ps.now)))) c.in-Some-2.is c.in_ok-choice.ensures.ok

pub choice_of-returns-in-Some-found-clause-ok : goal.choice_of-returns-in-Some-found-clause-ok
choice_of-returns-in-Some-found-clause-ok t c =
    let p = sum_of (trees_of c.args.ps.now) in
    let arms = subst (λ (o : Option (List Arm)). IfSome o (λ xs. AreArms c.arms_of.new.st c.in-Some.f xs p)) c.in-Some-found.is c.in_ok-found.ensures.ok in
    IfOk-weaker c.choice_between.result _ _ (λ o h. IfSome_then o h (λ d k. k p arms)) c.choice_between.ensures.ok

pub arms_of-loop-i-preserved : goal.arms_of-loop-i-preserved
arms_of-loop-i-preserved t c =
    let one = subst (λ (o : Option Arm). IfSome o (λ x. IsArm c.arm_of.new.st c.args.f x (tree_of c.index-ps-i.result))) c.in-Some.is c.in_ok-one.ensures.ok in
    record {
      grows = grows_on _ _ _ c.loop-i.invariant.grows c.arm_of.ensures.grows;
      within = omega (arith, c.loop-i.invariant.within);
      arms = subst (λ ps. AreArms c.arm_of.new.st c.args.f c.push.new.self (sum_of ps)) (sym (trees_before c.args.ps.now c.loop-i.i c.index-ps-i.result c.loop-i-test.true c.loop-i.invariant.within c.index-ps-i.is))
          (arms_more c.arm_of.new.st c.args.f c.in-Some.one c.loop-i.found c.push.new.self (tree_of c.index-ps-i.result) (trees_of (drop c.loop-i.i c.args.ps.now)) c.in_ok-push.ensures.ok one
          (arms_grow c.loop-i.st c.arm_of.new.st c.args.f c.loop-i.found (sum_of (trees_of (drop c.loop-i.i c.args.ps.now))) c.arm_of.ensures.grows c.loop-i.invariant.arms));
      drawn = c.in_ok-one.ensures.drawn;
    }

pub arms_of-returns-clause-ok : goal.arms_of-returns-clause-ok
arms_of-returns-clause-ok t c =
    let zero_is : c.loop-i.i ≡ 0 = omega (arith, c.loop-i-test.false) in
    let found : AreArms c.loop-i.st c.args.f c.loop-i.found (sum_of (trees_of c.args.ps.now)) = subst (λ n. AreArms c.loop-i.st c.args.f c.loop-i.found (sum_of (trees_of (drop n c.args.ps.now)))) zero_is c.loop-i.invariant.arms in
    subst (λ (xs : List Arm). AreArms c.loop-i.st c.args.f xs (sum_of (trees_of c.args.ps.now))) (sym c.from_vec.ensures)
    (arms_moved c.loop-i.st c.args.f c.into_vec-arms.result.items c.sort_unstable.new.self.items (sum_of (trees_of c.args.ps.now)) c.sort_unstable.ensures.permutation
    (subst (λ (xs : List Arm). AreArms c.loop-i.st c.args.f xs (sum_of (trees_of c.args.ps.now))) (sym c.into_vec-arms.ensures) found))

pub arm_of_all-returns-then-is_child-clause-ok : goal.arm_of_all-returns-then-is_child-clause-ok
arm_of_all-returns-then-is_child-clause-ok t c =
    let some : 0 < length c.args.ps.now = omega (arith, c.if-ps-eq0.false) in
    let child = c.is_child.ensures c.if-is_child.true in
    subst (λ ps. IsArm c.what_follows.new.st c.args.f (c.in-Some.ends, c.in_ok-d.d) (seq_of ps)) (sym (ap trees_of (left_is c.args.ps.now 0 c.index-ps-0.result some c.index-ps-0.is)))
    (arm_child c.what_follows.new.st c.args.f c.in_ok-d.d c.in-Some.ends (tree_of c.index-ps-0.result) (trees_of (drop 1 c.args.ps.now)) c.in-Some.ensures c.in_ok-d.ensures.ok child)

pub what_follows-returns-in-Some-clause-ok : goal.what_follows-returns-in-Some-clause-ok
what_follows-returns-in-Some-clause-ok t c =
    let is = subst (λ (o : Option (ℕ × ℕ)). IfSome o (λ s. trees_of (drop 1 c.args.ps.now) ≡ part (assign s.0 s.1) no_part)) c.in-Some.is c.assignment_after.ensures in
    IfOk-weaker c.drawn_once.result _ _
    (λ d h. subst (λ ps. IsSilent c.drawn_once.new.st d (seq_of ps)) (sym is) (alone_silent c.drawn_once.new.st d (assign c.in-Some.set.0 c.in-Some.set.1) h))
    c.drawn_once.ensures.ok

pub what_follows-returns-clause-drawn : goal.what_follows-returns-clause-drawn
what_follows-returns-clause-drawn t c =
    on_any c.silent_from.result _ (assignments_grow c.args.st.now c.silent_from.new.st c.args.drawn.now c.silent_from.ensures.grows c.requires.drawn)

pub silent_not-returns-clause-ok : goal.silent_not-returns-clause-ok
silent_not-returns-clause-ok t c =
    IfOk-weaker c.negate.result _ _
    (λ r h. not_silent c.silent.new.st c.negate.new.st c.in_ok-d.d r (tree_of c.args.q.now) c.negate.ensures.grows c.in_ok-d.ensures.ok h)
    c.negate.ensures.ok

pub silent_star-returns-clause-ok : goal.silent_star-returns-clause-ok
silent_star-returns-clause-ok t c =
    star_silent c.silent.new.st c.star.new.st c.in_ok-d.d c.in_ok-r.r (tree_of c.args.q.now) c.star.ensures.grows c.in_ok-d.ensures.ok c.in_ok-r.ensures.id c.in_ok-r.ensures.ends c.in_ok-r.ensures.leads

pub silent-returns-in-Dup-clause-ok : goal.silent-returns-in-Dup-clause-ok
silent-returns-in-Dup-clause-ok t c =
    IfOk-weaker c.never_silent.result _ _
    (λ r h. subst (λ p. IsSilent c.never_silent.new.st r (tree_of p)) (sym c.in-Dup.is) (h c.in-Dup.field-0))
    c.never_silent.ensures.dup

pub silent-returns-in-Link-clause-ok : goal.silent-returns-in-Link-clause-ok
silent-returns-in-Link-clause-ok t c =
    IfOk-weaker c.never_silent-in-Link.result _ _
    (λ r h. subst (λ p. IsSilent c.never_silent-in-Link.new.st r (tree_of p)) (sym c.in-Link.is) (h c.in-Link.field-0 c.in-Link.field-1 c.in-Link.field-2 c.in-Link.field-3 c.in-Link.field-4))
    c.never_silent-in-Link.ensures.link
