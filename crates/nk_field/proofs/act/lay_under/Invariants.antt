use Rattle.std.proofs.Common.{◌≡◌, ◌+◌, ◌-◌, ◌≤◌, ◌++◌, drop, length}
use Rattle.nk_field.specs.Act.{act_then}
use Rattle.nk_field.proofs.act.lay_under.Given as goal

abbrev pub invariant-loop-i : goal.invariant-loop-i
invariant-loop-i l = record {
  in_a : l.i ≤ length l.a;
  in_b : l.k ≤ length l.b;
  all : l.all ++ act_then (drop l.i l.a) (drop l.k l.b) ≡ act_then l.a l.b;
}

abbrev pub decreases-loop-i : goal.decreases-loop-i
decreases-loop-i l = (length l.a - l.i) + (length l.b - l.k)
