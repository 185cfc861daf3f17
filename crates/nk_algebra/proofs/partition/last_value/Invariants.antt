use Rattle.std.proofs.Common.{◌≡◌, ◌≤◌, false, drop, length}
use Rattle.nk_algebra.specs.Partition.{assigns}
use Rattle.nk_algebra.proofs.partition.last_value.Given as goal

-- none of the assignments from the place on is to the field
abbrev pub invariant-loop-i : goal.invariant-loop-i
invariant-loop-i l = record {
  within : l.i ≤ length l.pairs;
  none : assigns l.f (drop l.i l.pairs) ≡ false;
}

abbrev pub decreases-loop-i : goal.decreases-loop-i
decreases-loop-i l = l.i
