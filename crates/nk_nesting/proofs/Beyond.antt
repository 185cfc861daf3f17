-- The test of the limit on what is open, where it fails.
use Rattle.std.proofs.Common.{◌≡◌, ◌<◌, ℕ, false, arith}
use Rattle.std.specs.Prelude.{nat_le}
use Rattle.std.proofs.lemmas.Bool.Decides.{nat_tests}

pub beyond : (n : ℕ) → 256 < n → nat_le n 256 ≡ false
beyond n lt = grind (arith, nat_tests)
