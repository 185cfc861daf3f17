-- Places in an order by ranks.
use Rattle.std.specs.Prelude.{ℕ, ◌<◌, List, Contains}

-- the list has each place below n with some rank, and no other place
pub record AreAllPlaces (n : ℕ) (order : List ((ℕ × ℕ) × ℕ)) : Type 0 where
  pub within : (p : (ℕ × ℕ) × ℕ) → Contains order p → p.1 < n
  pub every : (k : ℕ) → k < n → (r : ℕ × ℕ) × Contains order (r, k)
