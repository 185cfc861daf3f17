-- Acts that assign exactly the fields that they change.
pub use Rattle.nk_store.specs.Operations.{exact, exact_out, split_leaf}
pub use Rattle.nk_store.specs.Sends.{Sends}
use Rattle.std.specs.Prelude.{◌≡◌, ℕ, List, [], ◌∷◌, slice_index}
use Rattle.nk_store.specs.Leaves.{Every}
use Rattle.nk_store.specs.StoreState.{StoreState, IsStorePacket, look}

-- each assignment changes the packet
abbrev pub IsExact : List ℕ → List (ℕ × ℕ) → Type 0
IsExact pk [] = Unit {0}
IsExact pk (s ∷ ss) = (slice_index pk s.0 ≡ s.1 → ⊥) × IsExact pk ss

-- each act of the diagram changes each field that it assigns, at each packet
abbrev pub AreExact : StoreState → ℕ → Type 0
AreExact st d = (pk : List ℕ) → IsStorePacket st pk → Every (λ o. IsExact pk o.act) (look st d pk)
