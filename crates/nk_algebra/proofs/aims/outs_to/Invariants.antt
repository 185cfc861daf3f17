use Rattle.std.proofs.Common.{◌≡◌, map, take}
use Rattle.nk_apply.specs.Leaves.{out_to}
use Rattle.nk_algebra.proofs.aims.outs_to.Given as goal

abbrev pub invariant-loop-o : goal.invariant-loop-o
invariant-loop-o l = l.all ≡ map (out_to l.target) (take l.o-index l.outs)
