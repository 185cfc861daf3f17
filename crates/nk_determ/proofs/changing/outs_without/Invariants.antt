use Rattle.std.proofs.Common.{◌≡◌, map, take}
use Rattle.nk_determ.specs.Unchanged.{out_without}
use Rattle.nk_determ.proofs.changing.outs_without.Given as goal

abbrev pub invariant-loop-o : goal.invariant-loop-o
invariant-loop-o l = l.all ≡ map (out_without l.f l.n) (take l.o-index l.outs)
