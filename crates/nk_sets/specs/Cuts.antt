-- Where a part of a set and a part of a diagram end that make one part.
use Rattle.std.specs.Prelude.{◌≡◌, ℕ, ◌⊎◌, min, List, []}
use Rattle.nk_store.specs.declared.node.Out.{Out}

-- the first of both ends, or that of the set's part where that has no packet
abbrev pub IsEnd : (List ℕ → List Out) → ℕ → ℕ → ℕ → Type 0
IsEnd L here there end = (end ≡ min here there) ⊎ ((end ≡ here) × ((pk : List ℕ) → L pk ≡ []))
