use Rattle.std.proofs.Common.{◌≤◌, ◌-◌, length}
use Rattle.nk_store.specs.StoreState.{Grows}
use Rattle.nk_backward.specs.Predecessors.{AreSetsJoined}
use Rattle.nk_backward.proofs.predecessors.joined_all.Given as goal

abbrev pub invariant-loop-from : goal.invariant-loop-from
invariant-loop-from l = record {
  grows : Grows l.fn.st l.st;
  within : l.from ≤ length l.ds;
  made : AreSetsJoined l.fn.st l.ds l.from l.st l.into.entries;
}

abbrev pub decreases-loop-from : goal.decreases-loop-from
decreases-loop-from l = length l.ds - l.from
