use Rattle.std.proofs.Common.{◌≤◌, take}
use Rattle.nk_apply.proofs.Built.{Built}
use Rattle.nk_auto.specs.ByValue.{HaveOwnValues}
use Rattle.nk_auto.proofs.ByValue.{AreBelow, by_arm}
use Rattle.nk_auto.proofs.by_value.arm_parts.Given as goal

-- the values below from have their parts
abbrev pub invariant-loop-i : goal.invariant-loop-i
invariant-loop-i l = record {
  within : l.from ≤ l.max;
  below : AreBelow l.from (take l.i l.arms);
  alone : HaveOwnValues l.st (take l.i l.arms);
  built : Built (by_arm l.st (take l.i l.arms)) l.st l.fn.f l.from l.parts;
}
