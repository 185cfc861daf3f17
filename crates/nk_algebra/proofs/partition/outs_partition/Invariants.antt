use Rattle.std.proofs.Common.{◌≡◌, take}
use Rattle.std.specs.List.{flat_map}
use Rattle.nk_algebra.specs.Partition.{passed}
use Rattle.nk_algebra.specs.Kinds.{is_of}
use Rattle.nk_algebra.proofs.partition.outs_partition.Given as goal

abbrev pub invariant-loop-o : goal.invariant-loop-o
invariant-loop-o l = l.all ≡ flat_map (passed (is_of l.kind) l.chosen) (take l.o-index l.outs)
