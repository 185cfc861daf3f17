use Rattle.std.proofs.Common.{◌≡◌, drop}
use Rattle.nk_extract.specs.Ways.{exit_of}
use Rattle.nk_extract.proofs.out_buckets.exit.Given as goal

abbrev pub invariant-loop-f : goal.invariant-loop-f
invariant-loop-f l = exit_of (drop l.f-index l.sets) ≡ exit_of l.sets
