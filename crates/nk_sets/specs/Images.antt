-- The two halves of what an act makes of a set: its fields forgotten, and its values tested.
use Rattle.std.specs.Prelude.{◌≡◌, ◌==◌, ◌≢◌, ℕ, ◌&&◌, min, Bool, true, List, [], ◌∷◌, slice_index}
use Rattle.nk_store.specs.StoreState.{StoreState, IsStorePacket}
use Rattle.nk_sets.specs.PacketSets.{is_in, IsSet}

-- the assignments assign the field nothing
abbrev pub Omits : List (ℕ × ℕ) → ℕ → Type 0
Omits [] f = Unit {0}
Omits (s ∷ ss) f = (s.0 ≢ f) × Omits ss f

-- two packets have the same value at each field that the assignments omit
abbrev pub SameBeside : List (ℕ × ℕ) → List ℕ → List ℕ → Type 0
SameBeside g x y = (f : ℕ) → Omits g f → slice_index x f ≡ slice_index y f

-- the packets of r are those that a packet of s agrees with beside the fields that g assigns
pub record IsFree (old : StoreState) (g : List (ℕ × ℕ)) (s : ℕ) (new : StoreState) (r : ℕ) : Type 0 where
  pub set : IsSet new r
  pub comes :
      (y : List ℕ) → IsStorePacket old y → is_in new r y ≡ true
      → (x : List ℕ) × IsStorePacket old x × (is_in old s x ≡ true) × SameBeside g x y
  pub goes :
      (x y : List ℕ) → IsStorePacket old x → IsStorePacket old y → is_in old s x ≡ true → SameBeside g x y
      → is_in new r y ≡ true

-- whether a packet has the values that are assigned, a value past the highest counting as it
abbrev pub are_assigned : List ℕ → List (ℕ × ℕ) → List ℕ → Bool
are_assigned maxes [] pk = true
are_assigned maxes (s ∷ ss) pk = min (slice_index pk s.0) (slice_index maxes s.0) == s.1 && are_assigned maxes ss pk
