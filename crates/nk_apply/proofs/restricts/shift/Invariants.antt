use Rattle.std.proofs.Common.{◌≤◌, drop, length}
use Rattle.nk_field.specs.Act.{applied}
use Rattle.nk_store.specs.StoreState.{HasLeaves, look, Grows}
use Rattle.nk_apply.proofs.restricts.shift.Given as goal

abbrev pub invariant-loop-i : goal.invariant-loop-i
invariant-loop-i l = record {
  within : l.i ≤ length l.sets;
  grows : Grows l.fn.st l.st;
  leaves : HasLeaves l.st l.to (λ pk. look l.fn.st l.fn.d (applied (drop l.i l.sets) pk));
}

abbrev pub decreases-loop-i : goal.decreases-loop-i
decreases-loop-i l = l.i
