use Rattle.std.proofs.Common.{◌≤◌, take}
use Rattle.nk_apply.proofs.Built.{Built}
use Rattle.nk_auto.proofs.Tested.{AreBelow, by_value}
use Rattle.nk_auto.proofs.values.value_parts.Given as goal

-- the values below from have their parts
abbrev pub invariant-loop-i : goal.invariant-loop-i
invariant-loop-i l = record {
  within : l.from ≤ l.max;
  below : AreBelow l.from (take l.i l.intervals);
  built : Built (by_value (take l.i l.intervals)) l.st l.fn.f l.from l.parts;
}
