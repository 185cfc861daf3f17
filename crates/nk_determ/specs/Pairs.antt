-- Set states at packets, and entries of them: a set of labels beside the packets that stand under it (the subset
-- construction over the states of a NetKAT automaton, Foster et al., POPL 2015).
use Rattle.std.specs.Prelude.{◌≡◌, ℕ, ◌<◌, ◌⊎◌, ◌↔◌, true, List, [], ◌∷◌, length, slice_index, slice_index_or, All, Contains}
use Rattle.std.specs.List.Sorted.{IsStrictlyIncreasing}
use Rattle.nk_store.specs.StoreState.{StoreState, IsStorePacket}
use Rattle.nk_apply.specs.PacketSets.{is_in, IsSet}
use Rattle.nk_apply.specs.Unions.{AreIds}
use Rattle.nk_determ.specs.Exact.{Sends}
use Rattle.nk_determ.specs.States.{StateLeads}

-- a set of labels at a packet
abbrev pub Node : Type 0
Node = List ℕ × List ℕ

-- each label is a place among so many states
abbrev pub AreLabelsBelow : ℕ → List ℕ → Type 0
AreLabelsBelow states set = All (λ l. l < states) set

-- each state is a diagram of the store, and what it sends packets in range to are places among the states
pub record AreStates (st : StoreState) (states : List ℕ) : Type 0 where
  pub ids : AreIds st states
  pub targets : (l : ℕ) (pk y : List ℕ) (t : ℕ) → l < length states → IsStorePacket st pk → Sends st (slice_index states l) pk y t → t < length states

-- the packet stands under the set of this number
abbrev pub Under : StoreState → List (ℕ × ℕ) → ℕ → List ℕ → Type 0
Under st [] i x = ⊥
Under st (p ∷ ps) i x = ((p.0 ≡ i) × (is_in st p.1 x ≡ true)) ⊎ Under st ps i x

-- the set has an entry
abbrev pub Named : List (ℕ × ℕ) → ℕ → Type 0
Named [] i = ⊥
Named (p ∷ ps) i = (p.0 ≡ i) ⊎ Named ps i

-- no set has two entries
abbrev pub Once : List (ℕ × ℕ) → Type 0
Once [] = Unit {0}
Once (p ∷ ps) = (Named ps p.0 → ⊥) × Once ps

-- each entry has the property
abbrev pub EachPair : (ℕ × ℕ → Type 0) → List (ℕ × ℕ) → Type 0
EachPair P [] = Unit {0}
EachPair P (p ∷ ps) = P p × EachPair P ps

-- the packet stands under a set with these members
abbrev pub Within : StoreState → List (List ℕ) → List (ℕ × ℕ) → Node → Type 0
Within st ss ps n = (i : ℕ) × (slice_index_or ss i [] ≡ n.0) × Under st ps i n.1

-- an entry over so many states
pub record IsPair (st : StoreState) (ss : List (List ℕ)) (states : ℕ) (p : ℕ × ℕ) : Type 0 where
  pub known : p.0 < length ss
  pub places : AreLabelsBelow states (slice_index_or ss p.0 [])
  pub packets : IsSet st p.1

-- entries over so many states, a set once
pub record ArePairs (st : StoreState) (ss : List (List ℕ)) (states : ℕ) (ps : List (ℕ × ℕ)) : Type 0 where
  pub each : EachPair (IsPair st ss states) ps
  pub once : Once ps

-- the packets that start
pub record IsStart (st : StoreState) (set : List ℕ) (packets : ℕ) (n : Node) : Type 0 where
  pub set_is : n.0 ≡ set
  pub packet : IsStorePacket st n.1
  pub has : is_in st packets n.1 ≡ true

-- the set at the packet records the next packet, and the labels that do so, all of them, are the next set
pub record IsStep (st : StoreState) (states : List ℕ) (m n : Node) : Type 0 where
  pub packet : IsStorePacket st n.1
  pub some : n.0 ≡ [] → ⊥
  pub ascend : IsStrictlyIncreasing n.0
  pub every : (l : ℕ) → Contains n.0 l ↔ ((0 < l) × StateLeads st states m.0 m.1 n.1 l)

-- the packet is one of the store's
abbrev pub IsGood : StoreState → Node → Type 0
IsGood st n = IsStorePacket st n.1
