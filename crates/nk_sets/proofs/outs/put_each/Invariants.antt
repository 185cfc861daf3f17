use Rattle.std.proofs.Common.{◌≡◌, ◌++◌, map, take}
use Rattle.nk_sets.specs.Outs.{out_with_packets, stretch}
use Rattle.nk_sets.proofs.outs.put_each.Given as goal

abbrev pub invariant-loop-o : goal.invariant-loop-o
invariant-loop-o l = l.all ≡ l.fn.all ++ map (stretch l.from l.end) (map (out_with_packets l.packets) (take l.o-index l.outs))
