use Rattle.std.proofs.Common.{◌≡◌, ℕ, ◌<◌, Option, [], arith, sym, ap, subst, ◌∙◌, length, drop}
use Rattle.std.specs.Prelude.{IfSome}
use Rattle.std.proofs.lemmas.List.{drop_all}
use Rattle.std.proofs.lemmas.Result.{IfOk-weaker, on_ok_weaker}
use Rattle.nk_policy.specs.Policy.{sum_of, seq_of, star_of, no_part, part}
use Rattle.nk_policy.specs.Tree.{tree_of, trees_of}
use Rattle.nk_store.specs.StoreState.{IsId}
use Rattle.nk_store.proofs.Stores.{grows_on, grows_same}
use Rattle.nk_apply.specs.Predicates.{IsPredicate}
use Rattle.nk_auto.specs.Continued.{IsSilent, IsContinued, AreWritten}
use Rattle.nk_auto.specs.Guarded.{NeverRecords, IsGuarded}
use Rattle.nk_auto.specs.TwoWays.{AreWays}
use Rattle.nk_auto.proofs.Grown.{leaves_grow}
use Rattle.nk_auto.proofs.Silences.{silent_grow}
use Rattle.nk_auto.proofs.TwoWays.{ways_grow, dupless_ways, sum_ways}
use Rattle.nk_auto.proofs.Parts.{trees_before}
use Rattle.nk_auto.proofs.Going.{continued_grow, unit_continued, cons_continued, star_continued}
use Rattle.nk_apply.proofs.MadeOf.{on_any}
use Rattle.nk_auto.proofs.Writing.{unit_written, seq_written, sum_written, star_written, not_written, predicate_written, dupless_written, written_grow}
use Rattle.nk_auto.proofs.Guarding.{guarded_grow, after_written, counted_none}
use Rattle.nk_auto.proofs.Sums.{AreOf, IsOnward, one_more_of, ids_of, sum_continued}
use Rattle.nk_auto.proofs.with_states.+with_states.Goals as goal

pub any_with_states-loop-i-preserved : goal.any_with_states-loop-i-preserved
any_with_states-loop-i-preserved t c =
    let here = sym (trees_before c.args.ps.now c.loop-i.i c.index-ps-i.result c.loop-i-test.true c.loop-i.invariant.within c.index-ps-i.is) in
    record {
      grows = grows_on _ _ _ c.loop-i.invariant.grows c.continued_with_states.ensures.grows;
      within = omega (arith, c.loop-i.invariant.within);
      made = subst (AreOf (IsOnward c.args.next) c.continued_with_states.new.st c.push.new.self) here
          (one_more_of (IsOnward c.args.next) (λ old new d p g h. continued_grow old new d p c.args.next g h) c.loop-i.st c.continued_with_states.new.st c.loop-i.ids c.push.new.self (trees_of (drop c.loop-i.i c.args.ps.now)) c.in_ok-d.d (tree_of c.index-ps-i.result) c.continued_with_states.ensures.grows c.in_ok-push.ensures.ok c.loop-i.invariant.made c.in_ok-d.ensures.ok);
      written = subst (λ ps. AreWritten c.continued_with_states.new.st c.args.states.now c.continued_with_states.new.states c.args.base (sum_of ps) c.args.next) here
          (sum_written c.loop-i.st c.continued_with_states.new.st c.args.states.now c.loop-i.states c.continued_with_states.new.states c.args.base c.args.next (tree_of c.index-ps-i.result) (trees_of (drop c.loop-i.i c.args.ps.now)) c.continued_with_states.ensures.grows c.loop-i.invariant.written c.in_ok-d.ensures.written);
    }

pub any_with_states-union_all-requires : goal.any_with_states-union_all-requires
any_with_states-union_all-requires t c =
    ids_of (IsOnward c.args.next) (λ st d p h. h.id) c.loop-i.st c.loop-i.ids c.as_slice.result.now (trees_of (drop c.loop-i.i c.args.ps.now)) c.as_slice.ensures c.loop-i.invariant.made

pub any_with_states-returns-clause-ok : goal.any_with_states-returns-clause-ok
any_with_states-returns-clause-ok t c =
    let zero_is : c.loop-i.i ≡ 0 = omega (arith, c.loop-i-test.false) in
    let made : AreOf (IsOnward c.args.next) c.loop-i.st c.loop-i.ids (trees_of c.args.ps.now) = subst (λ n. AreOf (IsOnward c.args.next) c.loop-i.st c.loop-i.ids (trees_of (drop n c.args.ps.now))) zero_is c.loop-i.invariant.made in
    let next_id : IsId c.loop-i.st c.args.next = c.loop-i.invariant.grows.ids c.args.next c.requires in
    IfOk-weaker c.union_all.result _ _
    (λ r united. sum_continued c.loop-i.st c.union_all.new.st c.loop-i.ids c.as_slice.result.now (trees_of c.args.ps.now) c.args.next r c.as_slice.ensures c.union_all.ensures.grows next_id made united)
    c.union_all.ensures.ok

pub part_with_states-returns-in-Some-clause-ok : goal.part_with_states-returns-in-Some-clause-ok
part_with_states-returns-in-Some-clause-ok t c =
    let p = tree_of c.args.p.now in
    let made = subst (λ (o : Option ℕ). IfSome o (λ d. IsSilent c.guard_of.new.st d p)) c.in-Some.is c.in_ok-d.ensures.ok in
    let predicate = subst (λ (o : Option ℕ). IfSome o (λ d. IsPredicate c.guard_of.new.st d)) c.in-Some.is c.in_ok-d.ensures.predicate in
    let guards = subst (λ (o : Option ℕ). IfSome o (λ d. NeverRecords p)) c.in-Some.is c.in_ok-d.ensures.guard in
    IfOk-weaker c.guarded_by.result _ _
    (λ b h ps k following. h p ps k guards made predicate (guarded_grow c.args.st.now c.guard_of.new.st c.args.following.guard c.args.following.rest k (seq_of ps) c.guard_of.ensures.grows following))
    c.guarded_by.ensures.ok

pub part_with_states-returns-in-Some-clause-written : goal.part_with_states-returns-in-Some-clause-written
part_with_states-returns-in-Some-clause-written t c =
    let p = tree_of c.args.p.now in
    let guards = subst (λ (o : Option ℕ). IfSome o (λ d. NeverRecords p)) c.in-Some.is c.in_ok-d.ensures.guard in
    on_any c.guarded_by.result _
    (λ before ps k following w. after_written c.args.st.now c.guarded_by.new.st before c.args.states.now c.args.base k p ps (grows_on _ _ _ c.guard_of.ensures.grows c.guarded_by.ensures.grows) guards.dupless w)

pub part_with_states-returns-clause-ok : goal.part_with_states-returns-clause-ok
part_with_states-returns-clause-ok t c =
    let p = tree_of c.args.p.now in
    IfOk-weaker c.unguarded.result _ _
    (λ b h ps k following.
    let here = guarded_grow c.args.st.now c.guard_of.new.st c.args.following.guard c.args.following.rest k (seq_of ps) c.guard_of.ensures.grows following in
    let onward = continued_grow c.put_together.new.st c.continued_with_states.new.st c.in_ok-next.next (seq_of ps) k c.continued_with_states.ensures.grows (c.in_ok-next.ensures.ok (seq_of ps) k here) in
    h (seq_of (part p ps)) k (cons_continued c.continued_with_states.new.st c.in_ok-rest.rest c.in_ok-next.next k p ps c.in_ok-rest.ensures.ok onward))
    c.unguarded.ensures.ok

pub part_with_states-returns-clause-written : goal.part_with_states-returns-clause-written
part_with_states-returns-clause-written t c =
    let p = tree_of c.args.p.now in
    on_any c.unguarded.result _
    (λ before ps k following w.
    let here = guarded_grow c.args.st.now c.guard_of.new.st c.args.following.guard c.args.following.rest k (seq_of ps) c.guard_of.ensures.grows following in
    let grown = written_grow c.args.st.now c.put_together.new.st before c.args.states.now c.args.base (seq_of ps) k (grows_on _ _ _ c.guard_of.ensures.grows c.put_together.ensures.grows) w in
    written_grow c.continued_with_states.new.st c.unguarded.new.st before c.continued_with_states.new.states c.args.base (seq_of (part p ps)) k c.unguarded.ensures.grows
    (seq_written c.put_together.new.st c.continued_with_states.new.st before c.args.states.now c.continued_with_states.new.states c.args.base c.in_ok-next.next k p ps c.continued_with_states.ensures.grows grown (c.in_ok-next.ensures.ok (seq_of ps) k here) c.in_ok-rest.ensures.written))

pub write_first-returns-then-not-may_record-clause-written : goal.write_first-returns-then-not-may_record-clause-written
write_first-returns-then-not-may_record-clause-written t c = λ before ps k following w.
    after_written c.args.st.now c.args.st.now before c.args.states.now c.args.base k (tree_of c.args.p.now) ps (grows_same c.args.st.now) (counted_none (tree_of c.args.p.now) (c.may_record.ensures.none c.if-not-may_record.true)) w

pub write_first-returns-clause-written : goal.write_first-returns-clause-written
write_first-returns-clause-written t c =
    let p = tree_of c.args.p.now in
    on_ok_weaker c.write_states.result
    (λ h before ps k following w.
    let grown = written_grow c.args.st.now c.put_together.new.st before c.args.states.now c.args.base (seq_of ps) k c.put_together.ensures.grows w in
    seq_written c.put_together.new.st c.write_states.new.st before c.args.states.now c.write_states.new.states c.args.base c.in_ok-next.next k p ps c.write_states.ensures.grows grown (c.in_ok-next.ensures.ok (seq_of ps) k following) h)
    c.write_states.ensures.written

pub all_with_states-loop-i-init : goal.all_with_states-loop-i-init
all_with_states-loop-i-init t c =
    let none = sym (drop_all (length c.args.ps.now) c.args.ps.now (omega arith)) in
    record {
      grows = c.unguarded.ensures.grows;
      within = omega arith;
      following = subst (λ ps. IsGuarded c.unguarded.new.st c.in_ok-following.following.guard c.in_ok-following.following.rest (seq_of (trees_of ps)) c.args.next) none
          (c.in_ok-following.ensures.ok (seq_of no_part) c.args.next (unit_continued c.args.st.now c.args.next c.requires));
      written = subst (λ ps. AreWritten c.unguarded.new.st c.args.states.now c.args.states.now c.args.base (seq_of (trees_of ps)) c.args.next) none
          (unit_written c.unguarded.new.st c.args.states.now c.args.base c.args.next);
    }

pub all_with_states-loop-i-preserved : goal.all_with_states-loop-i-preserved
all_with_states-loop-i-preserved t c =
    let here = sym (trees_before c.args.ps.now c.loop-i.i c.index-ps-i.result c.loop-i-test.true c.loop-i.invariant.within c.index-ps-i.is) in
    let others = trees_of (drop c.loop-i.i c.args.ps.now) in
    record {
      grows = grows_on _ _ _ c.loop-i.invariant.grows c.part_with_states.ensures.grows;
      within = omega (arith, c.loop-i.invariant.within);
      following = subst (λ ps. IsGuarded c.part_with_states.new.st c.in_ok-following-2.following.guard c.in_ok-following-2.following.rest (seq_of ps) c.args.next) here
          (c.in_ok-following-2.ensures.ok others c.args.next c.loop-i.invariant.following);
      written = subst (λ ps. AreWritten c.part_with_states.new.st c.args.states.now c.part_with_states.new.states c.args.base (seq_of ps) c.args.next) here
          (c.in_ok-following-2.ensures.written c.args.states.now others c.args.next c.loop-i.invariant.following c.loop-i.invariant.written);
    }

pub all_with_states-returns-clause-ok : goal.all_with_states-returns-clause-ok
all_with_states-returns-clause-ok t c =
    let zero_is : c.loop-i.i ≡ 0 = omega (arith, c.loop-i-test.false) in
    IfOk-weaker c.put_together.result _ _
    (λ d h. subst (λ n. IsContinued c.put_together.new.st d (seq_of (trees_of (drop n c.args.ps.now))) c.args.next) zero_is (h (seq_of (trees_of (drop c.loop-i.i c.args.ps.now))) c.args.next c.loop-i.invariant.following))
    c.put_together.ensures.ok

pub all_with_states-returns-clause-written : goal.all_with_states-returns-clause-written
all_with_states-returns-clause-written t c =
    let zero_is : c.loop-i.i ≡ 0 = omega (arith, c.loop-i-test.false) in
    let written = subst (λ n. AreWritten c.loop-i.st c.args.states.now c.loop-i.states c.args.base (seq_of (trees_of (drop n c.args.ps.now))) c.args.next) zero_is c.loop-i.invariant.written in
    on_any c.put_together.result _ (written_grow c.loop-i.st c.put_together.new.st c.args.states.now c.loop-i.states c.args.base (seq_of (trees_of c.args.ps.now)) c.args.next c.put_together.ensures.grows written)

pub any_with_states-returns-clause-written : goal.any_with_states-returns-clause-written
any_with_states-returns-clause-written t c =
    let zero_is : c.loop-i.i ≡ 0 = omega (arith, c.loop-i-test.false) in
    let written : AreWritten c.loop-i.st c.args.states.now c.loop-i.states c.args.base (sum_of (trees_of c.args.ps.now)) c.args.next =
    subst (λ n. AreWritten c.loop-i.st c.args.states.now c.loop-i.states c.args.base (sum_of (trees_of (drop n c.args.ps.now))) c.args.next) zero_is c.loop-i.invariant.written in
    IfOk-weaker c.union_all.result _ _ (λ r h. written_grow c.loop-i.st c.union_all.new.st c.args.states.now c.loop-i.states c.args.base (sum_of (trees_of c.args.ps.now)) c.args.next c.union_all.ensures.grows written) c.union_all.ensures.ok

pub star_with_states-returns-clause-ok : goal.star_with_states-returns-clause-ok
star_with_states-returns-clause-ok t c =
    continued_grow c.continued_star.new.st c.write_states.new.st c.in_ok-again.again (star_of (tree_of c.args.q.now)) c.args.next c.write_states.ensures.grows c.in_ok-again.ensures.ok

pub star_with_states-returns-clause-written : goal.star_with_states-returns-clause-written
star_with_states-returns-clause-written t c =
    star_written c.write_states.new.st c.args.states.now c.write_states.new.states c.args.base c.in_ok-again.again c.args.next (tree_of c.args.q.now) c.in_ok-write_states.ensures.written
    (continued_grow c.continued_star.new.st c.write_states.new.st c.in_ok-again.again (star_of (tree_of c.args.q.now)) c.args.next c.write_states.ensures.grows c.in_ok-again.ensures.ok)

pub write_any-loop-i-preserved : goal.write_any-loop-i-preserved
write_any-loop-i-preserved t c =
    let here = sym (trees_before c.args.ps.now c.loop-i.i c.index-ps-i.result c.loop-i-test.true c.loop-i.invariant.within c.index-ps-i.is) in
    record {
      grows = grows_on _ _ _ c.loop-i.invariant.grows c.write_states.ensures.grows;
      within = omega (arith, c.loop-i.invariant.within);
      written = subst (λ ps. AreWritten c.write_states.new.st c.args.states.now c.write_states.new.states c.args.base (sum_of ps) c.args.next) here
          (sum_written c.loop-i.st c.write_states.new.st c.args.states.now c.loop-i.states c.write_states.new.states c.args.base c.args.next (tree_of c.index-ps-i.result) (trees_of (drop c.loop-i.i c.args.ps.now)) c.write_states.ensures.grows c.loop-i.invariant.written c.in_ok-write_states.ensures.written);
    }

pub write_any-returns-clause-written : goal.write_any-returns-clause-written
write_any-returns-clause-written t c =
    let zero_is : c.loop-i.i ≡ 0 = omega (arith, c.loop-i-test.false) in
    subst (λ n. AreWritten c.loop-i.st c.args.states.now c.loop-i.states c.args.base (sum_of (trees_of (drop n c.args.ps.now))) c.args.next) zero_is c.loop-i.invariant.written

pub write_all-loop-i-init : goal.write_all-loop-i-init
write_all-loop-i-init t c =
    let none = sym (drop_all (length c.args.ps.now) c.args.ps.now (omega arith)) in
    record {
      grows = c.unguarded.ensures.grows;
      within = omega arith;
      later = subst (λ ps. IsGuarded c.unguarded.new.st c.in_ok-later.later.guard c.in_ok-later.later.rest (seq_of (trees_of ps)) c.args.next) none
          (c.in_ok-later.ensures.ok (seq_of no_part) c.args.next (unit_continued c.args.st.now c.args.next c.requires));
      written = subst (λ ps. AreWritten c.unguarded.new.st c.args.states.now c.args.states.now c.args.base (seq_of (trees_of ps)) c.args.next) none
          (unit_written c.unguarded.new.st c.args.states.now c.args.base c.args.next);
    }

pub write_all-loop-i-preserved : goal.write_all-loop-i-preserved
write_all-loop-i-preserved t c =
    let some : 0 < c.loop-i.i = omega (arith, c.loop-i-test.true) in
    let here = sym (trees_before c.args.ps.now c.loop-i.i c.index-ps-i.result some c.loop-i.invariant.within c.index-ps-i.is) in
    let others = trees_of (drop c.loop-i.i c.args.ps.now) in
    record {
      grows = grows_on _ _ _ c.loop-i.invariant.grows c.part_with_states.ensures.grows;
      within = omega (arith, c.loop-i.invariant.within);
      later = subst (λ ps. IsGuarded c.part_with_states.new.st c.in_ok-later-2.later.guard c.in_ok-later-2.later.rest (seq_of ps) c.args.next) here
          (c.in_ok-later-2.ensures.ok others c.args.next c.loop-i.invariant.later);
      written = subst (λ ps. AreWritten c.part_with_states.new.st c.args.states.now c.part_with_states.new.states c.args.base (seq_of ps) c.args.next) here
          (c.in_ok-later-2.ensures.written c.args.states.now others c.args.next c.loop-i.invariant.later c.loop-i.invariant.written);
    }

pub write_all-returns-then-i-eq1-clause-written : goal.write_all-returns-then-i-eq1-clause-written
write_all-returns-then-i-eq1-clause-written t c =
    let others = trees_of (drop 1 c.args.ps.now) in
    let here : trees_of c.args.ps.now ≡ part (tree_of c.index-ps-0.result) others =
    trees_before c.args.ps.now 1 c.index-ps-0.result (omega arith) (omega (arith, c.loop-i.invariant.within, c.if-i-eq1.true)) c.index-ps-0.is in
    let written = subst (λ n. AreWritten c.loop-i.st c.args.states.now c.loop-i.states c.args.base (seq_of (trees_of (drop n c.args.ps.now))) c.args.next) c.if-i-eq1.true c.loop-i.invariant.written in
    let following = subst (λ n. IsGuarded c.loop-i.st c.loop-i.later.guard c.loop-i.later.rest (seq_of (trees_of (drop n c.args.ps.now))) c.args.next) c.if-i-eq1.true c.loop-i.invariant.later in
    on_ok_weaker c.write_first.result
    (λ h. subst (λ ps. AreWritten c.write_first.new.st c.args.states.now c.write_first.new.states c.args.base (seq_of ps) c.args.next) (sym here)
    (h c.args.states.now others c.args.next following written))
    c.write_first.ensures.written

pub write_all-returns-clause-written : goal.write_all-returns-clause-written
write_all-returns-clause-written t c =
    let zero_is : c.loop-i.i ≡ 0 = omega (arith, c.loop-i-test.false, c.if-i-eq1.false) in
    subst (λ n. AreWritten c.loop-i.st c.args.states.now c.loop-i.states c.args.base (seq_of (trees_of (drop n c.args.ps.now))) c.args.next) zero_is c.loop-i.invariant.written

pub write_states-returns-then-not-may_record-clause-written : goal.write_states-returns-then-not-may_record-clause-written
write_states-returns-then-not-may_record-clause-written t c =
    dupless_written c.args.st.now c.args.states.now c.args.base (tree_of c.args.p.now) c.args.next (c.may_record.ensures.none c.if-not-may_record.true)

pub write_states-returns-in-Not-clause-written : goal.write_states-returns-in-Not-clause-written
write_states-returns-in-Not-clause-written t c =
    subst (λ p. AreWritten c.args.st.now c.args.states.now c.args.states.now c.args.base (tree_of p) c.args.next) (sym c.in-Not.is) (not_written c.args.st.now c.args.states.now c.args.base (tree_of c.in-Not.field-0.value) c.args.next)

pub continued_with_states-returns-in-Not-clause-written : goal.continued_with_states-returns-in-Not-clause-written
continued_with_states-returns-in-Not-clause-written t c =
    IfOk-weaker c.after_not.result _ _
    (λ r h. subst (λ p. AreWritten c.after_not.new.st c.args.states.now c.args.states.now c.args.base (tree_of p) c.args.next) (sym c.in-Not.is) (not_written c.after_not.new.st c.args.states.now c.args.base (tree_of c.in-Not.q.value) c.args.next))
    c.after_not.ensures.ok

pub continued_with_states-returns-then-is_predicate_sum-clause-written :
    goal.continued_with_states-returns-then-is_predicate_sum-clause-written
continued_with_states-returns-then-is_predicate_sum-clause-written t c =
    on_any c.after_predicate.result _ (predicate_written c.after_predicate.new.st c.args.states.now c.args.base (tree_of c.args.p.now) c.args.next (c.is_predicate_sum.ensures c.if-is_predicate_sum.true))

pub continued_with_states-returns-then-is_wide_sum-clause-written :
    goal.continued_with_states-returns-then-is_wide_sum-clause-written
continued_with_states-returns-then-is_wide_sum-clause-written t c =
    on_any c.after_dupless.result _ (dupless_written c.after_dupless.new.st c.args.states.now c.args.base (tree_of c.args.p.now) c.args.next (c.is_wide_sum.ensures c.if-is_wide_sum.true))

pub continued_star-returns-clause-ok : goal.continued_star-returns-clause-ok
continued_star-returns-clause-ok t c =
    let p = tree_of c.args.q.now in
    let here = grows_on _ _ _ c.empty.ensures.grows (grows_on _ _ _ c.continued.ensures.grows c.silent_star.ensures.grows) in
    star_continued c.silent_star.new.st c.union.new.st c.seq.new.st c.in_ok-nothing.nothing c.in_ok-records.records c.args.next c.in_ok-rounds.rounds c.in_ok-onward.onward c.in_ok-d.d p
    c.laws.ensures.tidy c.union.ensures.grows c.seq.ensures.grows
    (continued_grow c.continued.new.st c.silent_star.new.st c.in_ok-records.records p c.in_ok-nothing.nothing c.silent_star.ensures.grows c.in_ok-records.ensures.ok)
    (leaves_grow c.empty.new.st c.silent_star.new.st c.in_ok-nothing.nothing _ (grows_on _ _ _ c.continued.ensures.grows c.silent_star.ensures.grows) c.in_ok-nothing.ensures.ok)
    c.in_ok-rounds.ensures.ok
    (here.ids c.args.next c.requires)
    c.in_ok-onward.ensures.ok
    c.in_ok-d.ensures.ok

pub continued_star-returns-then-nests-clause-ok : goal.continued_star-returns-then-nests-clause-ok
continued_star-returns-then-nests-clause-ok t c =
    c.in_ok-ways.ensures.records (tree_of c.args.q.now) c.in_ok-nothing.nothing c.in_ok-body.ensures.ok

pub both_ways-returns-in_ok-ways-in-Star-clause-ok : goal.both_ways-returns-in_ok-ways-in-Star-clause-ok
both_ways-returns-in_ok-ways-in-Star-clause-ok t c =
    let q = tree_of c.deref.result.now in
    subst (λ p. AreWays c.around.new.st c.in_ok-ways-in-Star.ways.silent c.in_ok-ways-in-Star.ways.records c.args.nothing p) (ap (λ x. star_of (tree_of x)) c.deref.ensures ∙ sym (ap tree_of c.in-Star.is))
    (record {
      silently = c.in_ok-ways-in-Star.ensures.silent q c.in_ok-body-in-Star.ensures.ok.silently;
      recording = c.in_ok-ways-in-Star.ensures.records q c.args.nothing c.in_ok-body-in-Star.ensures.ok;
      none = leaves_grow c.both_ways.new.st c.around.new.st c.args.nothing (λ pk. []) c.around.ensures.grows c.in_ok-body-in-Star.ensures.ok.none;
    })

pub each_way-returns-then-not-may_record-clause-ok : goal.each_way-returns-then-not-may_record-clause-ok
each_way-returns-then-not-may_record-clause-ok t c =
    dupless_ways c.silent.new.st c.in_ok-alone.alone c.args.nothing (tree_of c.args.p.now) (c.may_record.ensures.none c.if-not-may_record.true) c.in_ok-alone.ensures.ok
    (leaves_grow c.args.st.now c.silent.new.st c.args.nothing (λ pk. []) c.silent.ensures.grows c.requires)

pub each_way-returns-clause-ok : goal.each_way-returns-clause-ok
each_way-returns-clause-ok t c = record {
  silently = silent_grow c.silent.new.st c.continued.new.st c.in_ok-alone.alone (tree_of c.args.p.now) c.continued.ensures.grows c.in_ok-alone.ensures.ok;
  recording = c.in_ok-records.ensures.ok;
  none = leaves_grow c.args.st.now c.continued.new.st c.args.nothing (λ pk. []) (grows_on _ _ _ c.silent.ensures.grows c.continued.ensures.grows) c.requires;
}

pub both_any-loop-i-preserved : goal.both_any-loop-i-preserved
both_any-loop-i-preserved t c =
    let here = sym (trees_before c.args.ps.now c.loop-i.i c.index-ps-i.result c.loop-i-test.true c.loop-i.invariant.within c.index-ps-i.is) in
    let others = trees_of (drop c.loop-i.i c.args.ps.now) in
    record {
      grows = grows_on _ _ _ c.loop-i.invariant.grows c.both_ways.ensures.grows;
      within = omega (arith, c.loop-i.invariant.within);
      none = c.in_ok-ways.ensures.ok.none;
      silently = subst (AreOf IsSilent c.both_ways.new.st c.push.new.self) here
          (one_more_of IsSilent silent_grow c.loop-i.st c.both_ways.new.st c.loop-i.silents c.push.new.self others c.in_ok-ways.ways.silent (tree_of c.index-ps-i.result) c.both_ways.ensures.grows c.in_ok-push.ensures.ok c.loop-i.invariant.silently c.in_ok-ways.ensures.ok.silently);
      recording = subst (AreOf (IsOnward c.args.nothing) c.both_ways.new.st c.push-in-loop-i.new.self) here
          (one_more_of (IsOnward c.args.nothing) (λ old new d p g h. continued_grow old new d p c.args.nothing g h) c.loop-i.st c.both_ways.new.st c.loop-i.records c.push-in-loop-i.new.self others c.in_ok-ways.ways.records (tree_of c.index-ps-i.result) c.both_ways.ensures.grows c.in_ok-push-2.ensures.ok c.loop-i.invariant.recording c.in_ok-ways.ensures.ok.recording);
    }

pub both_any-union_all-requires : goal.both_any-union_all-requires
both_any-union_all-requires t c =
    ids_of IsSilent (λ st d p h. h.id) c.loop-i.st c.loop-i.silents c.as_slice.result.now (trees_of (drop c.loop-i.i c.args.ps.now)) c.as_slice.ensures c.loop-i.invariant.silently

pub both_any-union_all-requires-2 : goal.both_any-union_all-requires-2
both_any-union_all-requires-2 t c = λ k lt.
    c.union_all.ensures.grows.ids _
    (ids_of (IsOnward c.args.nothing) (λ st d p h. h.id) c.loop-i.st c.loop-i.records c.as_slice-2.result.now (trees_of (drop c.loop-i.i c.args.ps.now)) c.as_slice-2.ensures c.loop-i.invariant.recording k lt)

pub both_any-returns-clause-ok : goal.both_any-returns-clause-ok
both_any-returns-clause-ok t c =
    let zero_is : c.loop-i.i ≡ 0 = omega (arith, c.loop-i-test.false) in
    let silently = subst (λ n. AreOf IsSilent c.loop-i.st c.loop-i.silents (trees_of (drop n c.args.ps.now))) zero_is c.loop-i.invariant.silently in
    let recording = subst (λ n. AreOf (IsOnward c.args.nothing) c.loop-i.st c.loop-i.records (trees_of (drop n c.args.ps.now))) zero_is c.loop-i.invariant.recording in
    sum_ways c.loop-i.st c.union_all.new.st c.union_all-2.new.st c.args.nothing c.in_ok-alone.alone c.in_ok-first.first c.loop-i.silents c.as_slice.result.now c.loop-i.records c.as_slice-2.result.now (trees_of c.args.ps.now) c.as_slice.ensures c.as_slice-2.ensures c.union_all.ensures.grows c.union_all-2.ensures.grows c.loop-i.invariant.none silently recording c.in_ok-alone.ensures.ok c.in_ok-first.ensures.ok

pub both_all-loop-i-preserved : goal.both_all-loop-i-preserved
both_all-loop-i-preserved t c =
    let others = trees_of (drop c.loop-i.i c.args.ps.now) in
    record {
      grows = grows_on _ _ _ c.loop-i.invariant.grows (grows_on _ _ _ c.both_ways.ensures.grows c.put_before.ensures.grows);
      within = omega (arith, c.loop-i.invariant.within);
      following =
          subst (λ ps. AreWays c.put_before.new.st c.in_ok-more.more.silent c.in_ok-more.more.records c.args.nothing (seq_of ps)) (sym (trees_before c.args.ps.now c.loop-i.i c.index-ps-i.result c.loop-i-test.true c.loop-i.invariant.within c.index-ps-i.is))
          (c.in_ok-more.ensures.ok (tree_of c.index-ps-i.result) others c.args.nothing c.in_ok-first.ensures.ok
          (ways_grow c.loop-i.st c.both_ways.new.st c.loop-i.following.silent c.loop-i.following.records c.args.nothing (seq_of others) c.both_ways.ensures.grows c.loop-i.invariant.following));
    }

pub both_all-returns-clause-ok : goal.both_all-returns-clause-ok
both_all-returns-clause-ok t c =
    let zero_is : c.loop-i.i ≡ 0 = omega (arith, c.loop-i-test.false) in
    subst (λ n. AreWays c.loop-i.st c.loop-i.following.silent c.loop-i.following.records c.args.nothing (seq_of (trees_of (drop n c.args.ps.now)))) zero_is c.loop-i.invariant.following

pub continued_star-returns-in_err-body-clause-grows : goal.continued_star-returns-in_err-body-clause-grows
continued_star-returns-in_err-body-clause-grows t c = grows_on _ _ _ c.empty.ensures.grows c.both_ways.ensures.grows

pub continued_star-returns-in_err-ways-clause-grows : goal.continued_star-returns-in_err-ways-clause-grows
continued_star-returns-in_err-ways-clause-grows t c = grows_on _ _ _ (grows_on _ _ _ c.empty.ensures.grows c.both_ways.ensures.grows) c.around.ensures.grows

pub continued_star-returns-then-nests-clause-grows : goal.continued_star-returns-then-nests-clause-grows
continued_star-returns-then-nests-clause-grows t c = grows_on _ _ _ (grows_on _ _ _ c.empty.ensures.grows c.both_ways.ensures.grows) c.around.ensures.grows

pub continued_star-returns-in_err-records-clause-grows : goal.continued_star-returns-in_err-records-clause-grows
continued_star-returns-in_err-records-clause-grows t c = grows_on _ _ _ c.empty.ensures.grows c.continued.ensures.grows

pub continued_star-returns-in_err-rounds-clause-grows : goal.continued_star-returns-in_err-rounds-clause-grows
continued_star-returns-in_err-rounds-clause-grows t c = grows_on _ _ _ (grows_on _ _ _ c.empty.ensures.grows c.continued.ensures.grows) c.silent_star.ensures.grows

pub continued_star-returns-in_err-onward-clause-grows : goal.continued_star-returns-in_err-onward-clause-grows
continued_star-returns-in_err-onward-clause-grows t c = grows_on _ _ _ (grows_on _ _ _ (grows_on _ _ _ c.empty.ensures.grows c.continued.ensures.grows) c.silent_star.ensures.grows) c.union.ensures.grows

pub continued_star-returns-in_err-d-clause-grows : goal.continued_star-returns-in_err-d-clause-grows
continued_star-returns-in_err-d-clause-grows t c = grows_on _ _ _ (grows_on _ _ _ (grows_on _ _ _ (grows_on _ _ _ c.empty.ensures.grows c.continued.ensures.grows) c.silent_star.ensures.grows) c.union.ensures.grows) c.seq.ensures.grows

pub continued_star-returns-clause-grows : goal.continued_star-returns-clause-grows
continued_star-returns-clause-grows t c = grows_on _ _ _ (grows_on _ _ _ (grows_on _ _ _ (grows_on _ _ _ c.empty.ensures.grows c.continued.ensures.grows) c.silent_star.ensures.grows) c.union.ensures.grows) c.seq.ensures.grows

pub star_with_states-returns-in_err-write_states-clause-grows : goal.star_with_states-returns-in_err-write_states-clause-grows
star_with_states-returns-in_err-write_states-clause-grows t c = grows_on _ _ _ c.continued_star.ensures.grows c.write_states.ensures.grows

pub star_with_states-returns-clause-grows : goal.star_with_states-returns-clause-grows
star_with_states-returns-clause-grows t c = grows_on _ _ _ c.continued_star.ensures.grows c.write_states.ensures.grows

pub both_ways-returns-in_err-ways-in-Star-clause-grows : goal.both_ways-returns-in_err-ways-in-Star-clause-grows
both_ways-returns-in_err-ways-in-Star-clause-grows t c = grows_on _ _ _ c.both_ways.ensures.grows c.around.ensures.grows

pub both_ways-returns-in_ok-ways-in-Star-clause-grows : goal.both_ways-returns-in_ok-ways-in-Star-clause-grows
both_ways-returns-in_ok-ways-in-Star-clause-grows t c = grows_on _ _ _ c.both_ways.ensures.grows c.around.ensures.grows

pub each_way-returns-in_err-records-clause-grows : goal.each_way-returns-in_err-records-clause-grows
each_way-returns-in_err-records-clause-grows t c = grows_on _ _ _ c.silent.ensures.grows c.continued.ensures.grows

pub each_way-returns-clause-grows : goal.each_way-returns-clause-grows
each_way-returns-clause-grows t c = grows_on _ _ _ c.silent.ensures.grows c.continued.ensures.grows

pub both_any-returns-in_err-ways-clause-grows : goal.both_any-returns-in_err-ways-clause-grows
both_any-returns-in_err-ways-clause-grows t c = grows_on _ _ _ c.loop-i.invariant.grows c.both_ways.ensures.grows

pub both_any-returns-in_err-push-clause-grows : goal.both_any-returns-in_err-push-clause-grows
both_any-returns-in_err-push-clause-grows t c = grows_on _ _ _ c.loop-i.invariant.grows c.both_ways.ensures.grows

pub both_any-returns-in_err-push-2-clause-grows : goal.both_any-returns-in_err-push-2-clause-grows
both_any-returns-in_err-push-2-clause-grows t c = grows_on _ _ _ c.loop-i.invariant.grows c.both_ways.ensures.grows

pub both_any-returns-in_err-alone-clause-grows : goal.both_any-returns-in_err-alone-clause-grows
both_any-returns-in_err-alone-clause-grows t c = grows_on _ _ _ c.loop-i.invariant.grows c.union_all.ensures.grows

pub both_any-returns-in_err-first-clause-grows : goal.both_any-returns-in_err-first-clause-grows
both_any-returns-in_err-first-clause-grows t c = grows_on _ _ _ (grows_on _ _ _ c.loop-i.invariant.grows c.union_all.ensures.grows) c.union_all-2.ensures.grows

pub both_any-returns-clause-grows : goal.both_any-returns-clause-grows
both_any-returns-clause-grows t c = grows_on _ _ _ (grows_on _ _ _ c.loop-i.invariant.grows c.union_all.ensures.grows) c.union_all-2.ensures.grows

pub both_all-returns-in_err-first-clause-grows : goal.both_all-returns-in_err-first-clause-grows
both_all-returns-in_err-first-clause-grows t c = grows_on _ _ _ c.loop-i.invariant.grows c.both_ways.ensures.grows

pub both_all-returns-in_err-more-clause-grows : goal.both_all-returns-in_err-more-clause-grows
both_all-returns-in_err-more-clause-grows t c = grows_on _ _ _ (grows_on _ _ _ c.loop-i.invariant.grows c.both_ways.ensures.grows) c.put_before.ensures.grows

pub write_any-returns-in_err-write_states-clause-grows : goal.write_any-returns-in_err-write_states-clause-grows
write_any-returns-in_err-write_states-clause-grows t c = grows_on _ _ _ c.loop-i.invariant.grows c.write_states.ensures.grows

pub write_all-returns-in_err-later-2-clause-grows : goal.write_all-returns-in_err-later-2-clause-grows
write_all-returns-in_err-later-2-clause-grows t c = grows_on _ _ _ c.loop-i.invariant.grows c.part_with_states.ensures.grows

pub write_all-returns-then-i-eq1-clause-grows : goal.write_all-returns-then-i-eq1-clause-grows
write_all-returns-then-i-eq1-clause-grows t c = grows_on _ _ _ c.loop-i.invariant.grows c.write_first.ensures.grows

pub write_first-returns-clause-grows : goal.write_first-returns-clause-grows
write_first-returns-clause-grows t c = grows_on _ _ _ c.put_together.ensures.grows c.write_states.ensures.grows

pub any_with_states-returns-in_err-d-clause-grows : goal.any_with_states-returns-in_err-d-clause-grows
any_with_states-returns-in_err-d-clause-grows t c = grows_on _ _ _ c.loop-i.invariant.grows c.continued_with_states.ensures.grows

pub any_with_states-returns-in_err-push-clause-grows : goal.any_with_states-returns-in_err-push-clause-grows
any_with_states-returns-in_err-push-clause-grows t c = grows_on _ _ _ c.loop-i.invariant.grows c.continued_with_states.ensures.grows

pub any_with_states-returns-clause-grows : goal.any_with_states-returns-clause-grows
any_with_states-returns-clause-grows t c = grows_on _ _ _ c.loop-i.invariant.grows c.union_all.ensures.grows

pub all_with_states-returns-in_err-following-2-clause-grows : goal.all_with_states-returns-in_err-following-2-clause-grows
all_with_states-returns-in_err-following-2-clause-grows t c = grows_on _ _ _ c.loop-i.invariant.grows c.part_with_states.ensures.grows

pub all_with_states-returns-clause-grows : goal.all_with_states-returns-clause-grows
all_with_states-returns-clause-grows t c = grows_on _ _ _ c.loop-i.invariant.grows c.put_together.ensures.grows

pub part_with_states-returns-in-Some-clause-grows : goal.part_with_states-returns-in-Some-clause-grows
part_with_states-returns-in-Some-clause-grows t c = grows_on _ _ _ c.guard_of.ensures.grows c.guarded_by.ensures.grows

pub part_with_states-returns-in_err-next-clause-grows : goal.part_with_states-returns-in_err-next-clause-grows
part_with_states-returns-in_err-next-clause-grows t c = grows_on _ _ _ c.guard_of.ensures.grows c.put_together.ensures.grows

pub part_with_states-returns-in_err-rest-clause-grows : goal.part_with_states-returns-in_err-rest-clause-grows
part_with_states-returns-in_err-rest-clause-grows t c = grows_on _ _ _ (grows_on _ _ _ c.guard_of.ensures.grows c.put_together.ensures.grows) c.continued_with_states.ensures.grows

pub part_with_states-returns-clause-grows : goal.part_with_states-returns-clause-grows
part_with_states-returns-clause-grows t c = grows_on _ _ _ (grows_on _ _ _ (grows_on _ _ _ c.guard_of.ensures.grows c.put_together.ensures.grows) c.continued_with_states.ensures.grows) c.unguarded.ensures.grows
