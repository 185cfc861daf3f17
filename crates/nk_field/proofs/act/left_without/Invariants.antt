use Rattle.std.proofs.Common.{◌≡◌, ◌++◌, drop}
use Rattle.nk_field.specs.Act.{left_without}
use Rattle.nk_field.proofs.act.left_without.Given as goal

abbrev pub invariant-loop-s : goal.invariant-loop-s
invariant-loop-s l = l.left ++ left_without l.f (drop l.s-index l.sets) ≡ left_without l.f l.sets
