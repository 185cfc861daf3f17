use Rattle.std.proofs.Common.{◌≡◌, drop}
use Rattle.nk_algebra.specs.Partition.{assigns}
use Rattle.nk_algebra.proofs.partition.sets.Given as goal

abbrev pub invariant-loop-i : goal.invariant-loop-i
invariant-loop-i l = assigns l.f (drop l.i l.pairs) ≡ assigns l.f l.pairs
