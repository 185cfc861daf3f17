-- Assignments within the fields' values.
use Rattle.std.specs.Prelude.{ℕ, ◌≤◌, List, slice_index}
use Rattle.nk_policy.specs.Policy.{Policy}
use Rattle.nk_policy.specs.Ranges.{AssignsOnly}
pub use Rattle.nk_store.specs.Sends.{Sends}

-- each assignment outside complements sets a field to at most its highest value
abbrev pub AssignsWithin : List ℕ → Policy → Type 0
AssignsWithin maxes p = AssignsOnly (λ f n. n ≤ slice_index maxes f) p
