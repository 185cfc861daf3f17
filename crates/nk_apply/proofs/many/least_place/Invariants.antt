use Rattle.std.proofs.Common.{◌≤◌}
use Rattle.nk_apply.proofs.PartSums.{AreFromTo}
use Rattle.nk_apply.proofs.many.least_place.Given as goal

abbrev pub invariant-loop-i : goal.invariant-loop-i
invariant-loop-i l = (l.least ≤ 18) × AreFromTo l.st l.least l.ds l.i
