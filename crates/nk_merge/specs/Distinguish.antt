-- The histories that one of two sets of labels gives alone.
use Rattle.std.specs.Prelude.{Option, Some, None, ℕ, List}
use Rattle.nk_field.specs.Order.{Found, IsLeast}
use Rattle.nk_store.specs.StoreState.{StoreState, IsStorePacket}
use Rattle.nk_witness.specs.Finds.{found_of}
use Rattle.nk_witness.specs.declared.found.Found as declared
use Rattle.nk_witness.specs.declared.found.Side.{Side}
use Rattle.nk_witness.specs.declared.found.Side.TheVariants.{Left, Right}
use Rattle.nk_merge.specs.Alike.{SetGives, AreAlike}

-- a history that the first set gives, from a packet in range, and the second one doesn't
abbrev pub IsOfFirst : StoreState → List ℕ → List ℕ → List ℕ → Found → Type 0
IsOfFirst st states s t f =
    IsStorePacket st f.start × SetGives st states s f.start f.records f.last × (SetGives st states t f.start f.records f.last → ⊥)

-- a history of the side's set alone: the first set is the left one
abbrev pub IsOfOne : StoreState → List ℕ → List ℕ → List ℕ → Side → Found → Type 0
IsOfOne st states s t Left f = IsOfFirst st states s t f
IsOfOne st states s t Right f = IsOfFirst st states t s f

-- a history of the side's set alone, and the least of all that one set gives alone
abbrev pub IsLeastOfOne : StoreState → List ℕ → List ℕ → List ℕ → Side → Found → Type 0
IsLeastOfOne st states s t side f =
    IsOfOne st states s t side f × IsLeast (λ g. (k : Side) × IsOfOne st states s t k g) f

-- both sets are alike, or the least history that one of them gives alone, whose last packet is in range
abbrev pub Distinguishes : StoreState → List ℕ → List ℕ → List ℕ → Option declared.Found → Type 0
Distinguishes st states s t None = AreAlike st states s t
Distinguishes st states s t (Some f) = IsLeastOfOne st states s t f.side (found_of f) × IsStorePacket st f.history.last
