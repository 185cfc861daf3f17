use Rattle.std.proofs.Common.{◌≤◌, length, drop}
use Rattle.nk_policy.specs.Policy.{sum_of}
use Rattle.nk_policy.specs.Tree.{trees_of}
use Rattle.nk_auto.specs.Values.{KeepsWhere}
use Rattle.nk_auto.proofs.values.tested_values.Given as goal

-- the parts from the place on keep packets by the intervals that were found
abbrev pub invariant-loop-i : goal.invariant-loop-i
invariant-loop-i l = record {
  within : l.i ≤ length l.ps;
  keeps : KeepsWhere l.f l.found (sum_of (trees_of (drop l.i l.ps)));
}

abbrev pub decreases-loop-i : goal.decreases-loop-i
decreases-loop-i l = l.i
