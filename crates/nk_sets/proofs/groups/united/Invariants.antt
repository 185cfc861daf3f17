use Rattle.std.proofs.Common.{◌≤◌, ◌-◌, length}
use Rattle.nk_store.specs.StoreState.{Grows}
use Rattle.nk_sets.specs.Outs.{AreUnited, IsNone}
use Rattle.nk_sets.proofs.groups.united.Given as goal

abbrev pub invariant-loop-from : goal.invariant-loop-from
invariant-loop-from l = record {
  grows : Grows l.fn.st l.st;
  none : IsNone l.st l.none;
  within : l.from ≤ length l.ss;
  made : AreUnited l.fn.st l.f l.ss l.from l.st l.made;
}

abbrev pub decreases-loop-from : goal.decreases-loop-from
decreases-loop-from l = length l.ss - l.from
