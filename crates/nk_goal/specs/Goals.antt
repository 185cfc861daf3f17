-- Violations at the packets of a level.
use Rattle.std.specs.Prelude.{◌≡◌, ℕ, true, List, []}
use Rattle.nk_store.specs.declared.node.Out.{Out}
use Rattle.nk_store.specs.StoreState.{StoreState, IsStorePacket}
use Rattle.nk_sets.specs.PacketSets.{is_in}
use Rattle.nk_determ.specs.Pairs.{Node, Within}
use Rattle.nk_determ.specs.Levels.{IsViolation}

-- the set has a violation at one of the packets
abbrev pub PairHasViolation : StoreState → ℕ → (List ℕ → List Out) → Type 0
PairHasViolation st x bad = (pk : List ℕ) × IsStorePacket st pk × (is_in st x pk ≡ true) × (bad pk ≡ [] → ⊥)

-- the set has no violation at any of the packets
abbrev pub PairHasNoViolation : StoreState → ℕ → (List ℕ → List Out) → Type 0
PairHasNoViolation st x bad = (pk : List ℕ) → IsStorePacket st pk → is_in st x pk ≡ true → bad pk ≡ []

-- a violation is met
abbrev pub MeetsViolation : StoreState → List (List ℕ) → List (ℕ × ℕ) → (List ℕ → List ℕ → List Out) → Type 0
MeetsViolation st ss ps bad = (n : Node) × IsStorePacket st n.1 × Within st ss ps n × IsViolation bad n

-- no violation is met
abbrev pub MeetsNoViolation : StoreState → List (List ℕ) → List (ℕ × ℕ) → (List ℕ → List ℕ → List Out) → Type 0
MeetsNoViolation st ss ps bad = (n : Node) → IsStorePacket st n.1 → Within st ss ps n → bad n.0 n.1 ≡ []
