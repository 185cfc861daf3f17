use Rattle.std.proofs.Common.{◌≡◌, drop}
use Rattle.nk_store.specs.Digests.{parts_mixed}
use Rattle.nk_store.proofs.digests.parts_mixed.Given as goal

abbrev pub invariant-loop-end : goal.invariant-loop-end
invariant-loop-end l = parts_mixed l.all (drop l.end-index l.parts) ≡ parts_mixed l.n l.parts
