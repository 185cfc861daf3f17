use Rattle.std.proofs.Common.{◌≡◌, drop}
use Rattle.nk_store.specs.Digests.{outs_mixed}
use Rattle.nk_store.proofs.digests.outs_mixed.Given as goal

abbrev pub invariant-loop-o : goal.invariant-loop-o
invariant-loop-o l = outs_mixed l.all (drop l.o-index l.outs) ≡ outs_mixed l.n l.outs
