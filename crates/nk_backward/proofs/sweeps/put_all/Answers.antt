use Rattle.std.proofs.Common.{◌<◌, ℕ, length, get_or, sym, subst, arith}
use Rattle.nk_store.specs.StoreState.{HasLeaves}
use Rattle.nk_store.proofs.Stores.{grows_on, grows_same}
use Rattle.nk_apply.specs.Predicates.{IsPredicate}
use Rattle.nk_apply.specs.Unions.{AreIds, unions}
use Rattle.nk_backward.specs.Sweeps.{IsWidened}
use Rattle.nk_backward.proofs.Gaining.{sets_on}
use Rattle.nk_backward.proofs.Joining.{run_ids}
use Rattle.nk_backward.proofs.Putting.{StandsBetween, sets_are, run_set}
use Rattle.nk_backward.proofs.Widening.{widened_none, widened_run, widened_whole}
use Rattle.nk_backward.proofs.sweeps.put_all.Goals as goal

pub loop-from-init : goal.loop-from-init
loop-from-init c = record {
  grows = grows_same c.args.st.now;
  within = omega arith;
  widened = widened_none c.args.st.now c.args.st.now (StandsBetween c.args.st.now c.args.found.now 0 0) c.args.back.now (grows_same c.args.st.now) c.requires.back c.requires.once (λ i z w m. absurd (let l = m.2 in omega (arith, l)));
}

pub union_all-requires : goal.union_all-requires
union_all-requires c =
    subst (AreIds c.loop-from.st) (sym c.as_slice.ensures)
    (run_ids c.loop-from.st c.args.found.now c.loop-from.from c.in_ok-to.to c.in_ok-to.run' (sets_are c.loop-from.st c.args.found.now (sets_on c.args.st.now c.loop-from.st c.args.found.now c.loop-from.invariant.grows c.requires.found)) c.in_ok-to.ensures)

pub put-requires-clause-packets : goal.put-requires-clause-packets
put-requires-clause-packets c =
    run_set c.loop-from.st c.union_all.new.st c.args.found.now c.loop-from.from c.in_ok-to.to c.in_ok-to.run' c.in_ok-y.y (sets_on c.args.st.now c.loop-from.st c.args.found.now c.loop-from.invariant.grows c.requires.found) c.in_ok-to.ensures
    (subst (λ ds. HasLeaves c.union_all.new.st c.in_ok-y.y (λ pk. unions c.loop-from.st ds 0 (length ds) pk)) c.as_slice.ensures c.in_ok-y.ensures.ok)
    (subst (λ ds. ((k : ℕ) → k < length ds → IsPredicate c.loop-from.st (get_or ds k 0)) → IsPredicate c.union_all.new.st c.in_ok-y.y) c.as_slice.ensures c.in_ok-y.ensures.predicate)

pub put-requires-clause-back : goal.put-requires-clause-back
put-requires-clause-back c = sets_on c.loop-from.st c.union_all.new.st c.loop-from.back c.union_all.ensures.grows c.loop-from.invariant.widened.packets

pub loop-from-preserved : goal.loop-from-preserved
loop-from-preserved c = record {
  grows = grows_on _ _ _ c.loop-from.invariant.grows (grows_on _ _ _ c.union_all.ensures.grows c.put.ensures.grows);
  within = c.in_ok-to.ensures.within;
  widened = subst (IsWidened c.args.st.now (StandsBetween c.args.st.now c.args.found.now 0 c.in_ok-to.to) c.args.back.now c.put.new.st c.put.new.back) (sym c.both_hold-none.ensures)
      (widened_run c.args.st.now c.loop-from.st c.union_all.new.st c.put.new.st c.args.found.now c.loop-from.from c.in_ok-to.to c.set_at.result c.in_ok-y.y c.in_ok-to.run' c.args.back.now c.loop-from.back c.put.new.back c.loop-from.none c.in_ok-known.known
      c.loop-from.invariant.grows c.union_all.ensures.grows c.requires.found c.set_at.ensures c.in_ok-to.ensures
      (subst (λ ds. HasLeaves c.union_all.new.st c.in_ok-y.y (λ pk. unions c.loop-from.st ds 0 (length ds) pk)) c.as_slice.ensures c.in_ok-y.ensures.ok) c.loop-from.invariant.widened c.in_ok-known.ensures.ok);
}

pub returns-clause-ok : goal.returns-clause-ok
returns-clause-ok c =
    widened_whole c.args.st.now c.loop-from.st c.args.found.now c.loop-from.from c.args.back.now c.loop-from.back c.loop-from.none (grows_same c.args.st.now) c.requires.back c.requires.once
    (omega (arith, c.loop-from-test.false, c.loop-from.invariant.within)) c.loop-from.invariant.widened
