use Rattle.std.proofs.Common.{◌≡◌, map, take}
use Rattle.nk_sets.specs.Outs.{out_with_packets}
use Rattle.nk_sets.proofs.outs.each_for.Given as goal

abbrev pub invariant-loop-o : goal.invariant-loop-o
invariant-loop-o l = l.all ≡ map (out_with_packets l.packets) (take l.o-index l.outs)
