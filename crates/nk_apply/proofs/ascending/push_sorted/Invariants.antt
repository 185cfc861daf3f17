use Rattle.std.proofs.Common.{◌≡◌, ◌+◌, ◌-◌, ◌≤◌, ◌++◌, drop, length}
use Rattle.nk_apply.specs.Leaves.{merged}
use Rattle.nk_apply.proofs.ascending.push_sorted.Given as goal

abbrev pub invariant-loop-i : goal.invariant-loop-i
invariant-loop-i l = record {
  in_a : l.i ≤ length l.a;
  in_b : l.k ≤ length l.b;
  all : l.all ++ merged (drop l.i l.a) (drop l.k l.b) ≡ l.initial.all ++ merged l.a l.b;
}

abbrev pub decreases-loop-i : goal.decreases-loop-i
decreases-loop-i l = (length l.a - l.i) + (length l.b - l.k)
