use Rattle.std.proofs.Common.{◌≡◌, drop}
use Rattle.nk_store.specs.Digests.{sets_mixed}
use Rattle.nk_store.proofs.digests.sets_mixed.Given as goal

abbrev pub invariant-loop-f : goal.invariant-loop-f
invariant-loop-f l = sets_mixed l.all (drop l.f-index l.sets) ≡ sets_mixed l.n l.sets
