use Rattle.std.proofs.Common.{◌≡◌, ◌≤◌, length, drop}
use Rattle.nk_policy.specs.Policy.{dups_of_all}
use Rattle.nk_policy.specs.Tree.{trees_of}
use Rattle.nk_policy.proofs.measure.+may_record.Given as goal

-- the parts from the place on have no dup
abbrev pub invariant-some_may_record-loop-i : goal.invariant-some_may_record-loop-i
invariant-some_may_record-loop-i l = record {
  within : l.i ≤ length l.ps;
  none : dups_of_all (trees_of (drop l.i l.ps)) ≡ 0;
}

abbrev pub decreases-some_may_record-loop-i : goal.decreases-some_may_record-loop-i
decreases-some_may_record-loop-i l = l.i
