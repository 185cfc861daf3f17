use Rattle.std.proofs.Common.{◌≡◌, take}
use Rattle.std.specs.List.{flat_map}
use Rattle.nk_reach.specs.Sides.{alone_out}
use Rattle.nk_reach.proofs.sides.alone_outs.Given as goal

abbrev pub invariant-loop-o : goal.invariant-loop-o
invariant-loop-o l = l.all ≡ flat_map (alone_out l.outs) (take l.o-index l.outs)
