use Rattle.std.proofs.Common.{◌≤◌, ◌-◌, [], length}
use Rattle.nk_store.specs.StoreState.{Grows}
use Rattle.nk_backward.specs.Closures.{IsGained}
use Rattle.nk_backward.proofs.Putting.{StandsBetween}
use Rattle.nk_backward.proofs.closure.put_all_new.Given as goal

abbrev pub invariant-loop-from : goal.invariant-loop-from
invariant-loop-from l = record {
  grows : Grows l.fn.st l.st;
  within : l.from ≤ length l.found;
  gained : IsGained l.fn.st (StandsBetween l.fn.st l.found 0 l.from) l.fn.back [] l.st l.back l.next;
}

abbrev pub decreases-loop-from : goal.decreases-loop-from
decreases-loop-from l = length l.found - l.from
