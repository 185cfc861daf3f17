-- The test of the limit on what is open.
use Rattle.std.proofs.Common.{◌≡◌, ◌≤◌, ℕ, true, arith}
use Rattle.std.specs.Prelude.{nat_le}
use Rattle.std.proofs.lemmas.Bool.Decides.{nat_tests}

-- the test of the limit, where it passes
pub within : (n : ℕ) → n ≤ 256 → nat_le n 256 ≡ true
within n le = grind (arith, nat_tests)
