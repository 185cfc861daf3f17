use Rattle.std.proofs.Common.{take}
use Rattle.nk_algebra.specs.Choices.{IsCut}
use Rattle.nk_algebra.proofs.choices.cut_at.Given as goal

abbrev pub invariant-loop-i : goal.invariant-loop-i
invariant-loop-i l = IsCut l.st l.g l.v (take l.i l.parts) (l.end, l.cut)
