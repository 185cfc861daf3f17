-- The children of a node at single values of its field, and one more child at all other values.
use Rattle.std.specs.Prelude.{◌≡◌, ℕ, ◌-◌, ◌≤◌, ◌==◌, nat_le, if◌then◌else◌, List, [], ◌∷◌, slice_index}
use Rattle.nk_store.specs.StoreState.{StoreState, IsId, IsStorePacket, look, root_field}

-- the child beside the value, the other one where the value isn't there
abbrev pub beside : ℕ → List (ℕ × ℕ) → ℕ → ℕ
beside other [] v = other
beside other (c ∷ cs) v = if c.0 == v then c.1 else beside other cs v

-- the part for the values from low on that are below v, if there are any
abbrev pub part_below : ℕ → ℕ → ℕ → List (ℕ × ℕ)
part_below low v d = if nat_le v low then [] else (v - 1, d) ∷ []

-- the part for the values from low to high, if there are any
abbrev pub part_to : ℕ → ℕ → ℕ → List (ℕ × ℕ)
part_to low high d = if nat_le low high then (high, d) ∷ [] else []

-- a packet in range has the leaf of the child beside its value of the field; no earlier field is tested
pub record IsBeside (old : StoreState) (f other : ℕ) (children : List (ℕ × ℕ)) (new : StoreState) (d : ℕ) : Type 0 where
  pub id : IsId new d
  pub leaf : (pk : List ℕ) → IsStorePacket new pk → look new d pk ≡ look old (beside other children (slice_index pk f)) pk
  pub later : f ≤ root_field new d
