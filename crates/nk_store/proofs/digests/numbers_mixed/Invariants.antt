use Rattle.std.proofs.Common.{◌≡◌, drop}
use Rattle.nk_store.specs.Digests.{numbers_mixed}
use Rattle.nk_store.proofs.digests.numbers_mixed.Given as goal

abbrev pub invariant-loop-number : goal.invariant-loop-number
invariant-loop-number l = numbers_mixed l.all (drop l.number-index l.numbers) ≡ numbers_mixed l.n l.numbers
