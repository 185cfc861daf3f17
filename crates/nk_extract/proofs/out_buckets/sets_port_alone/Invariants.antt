use Rattle.std.proofs.Common.{◌≡◌, ◌==◌, drop, length}
use Rattle.nk_field.specs.Act.{left_without}
use Rattle.nk_extract.proofs.out_buckets.sets_port_alone.Given as goal

abbrev pub invariant-loop-f : goal.invariant-loop-f
invariant-loop-f l = (length (left_without 1 (drop l.f-index l.sets)) == 0) ≡ (length (left_without 1 l.sets) == 0)
