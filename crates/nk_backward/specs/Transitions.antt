-- Transitions between sets of labels at packets.
use Rattle.std.specs.Prelude.{◌≡◌, ℕ, zero, suc, ◌+◌, ◌<◌, true, List, [], ◌∷◌, ◌++◌, length, slice_index_or}
use Rattle.nk_field.specs.Act.{applied}
use Rattle.nk_store.specs.StoreState.{StoreState, IsStorePacket}
use Rattle.nk_sets.specs.PacketSets.{is_in}
use Rattle.nk_sets.specs.Outs.{AllSuitStore, GivesAny}
use Rattle.nk_sets.specs.Outs.{sent_to}
use Rattle.nk_sets.specs.declared.outs.OutPackets.{OutPackets}
use Rattle.nk_determ.specs.Pairs.{Node, Under, Named, IsStep}
use Rattle.nk_backward.specs.declared.transitions.Transitions.{Transitions}

-- the entries of all levels, in turn
abbrev pub explored_entries : List (List (ℕ × ℕ)) → List (ℕ × ℕ)
explored_entries [] = []
explored_entries (l ∷ ls) = l ++ explored_entries ls

-- the transitions at a place of the list, or none
abbrev pub transitions_at : List Transitions → ℕ → Transitions
transitions_at ts k = slice_index_or ts k (record { source = 0; outs = [] })

-- the outs of each suit the store, and their packets are sets
abbrev pub OutsSuitStore : StoreState → List Transitions → Type 0
OutsSuitStore st ts = (k : ℕ) → k < length ts → AllSuitStore st (transitions_at ts k).outs

-- a transition leads from the packet z under the set i to the packet y under the set t
abbrev pub IsLed : StoreState → List Transitions → ℕ → List ℕ → ℕ → List ℕ → Type 0
IsLed st ts i z t y =
    (k : ℕ) × (g : List (ℕ × ℕ)) × (k < length ts) × ((transitions_at ts k).source ≡ i) × GivesAny st (transitions_at ts k).outs z (sent_to g (t + 1)) × (applied g z ≡ y)

-- so many transitions lead from the packet under the set to a goal
abbrev pub LeadsInto : StoreState → List Transitions → (ℕ → List ℕ → Type 0) → ℕ → ℕ → List ℕ → Type 0
LeadsInto st ts Goal zero i z = Goal i z
LeadsInto st ts Goal (suc n) i z = (t : ℕ) × (y : List ℕ) × IsLed st ts i z t y × LeadsInto st ts Goal n t y

-- the outs lead from the packets of x exactly where a step of the set does
pub record AreStepsFrom (st : StoreState) (states set : List ℕ) (x : ℕ) (new : StoreState) (nss : List (List ℕ)) (es : List OutPackets) : Type 0 where
  pub suits_store : AllSuitStore new es
  pub goes : (z : List ℕ) (g : List (ℕ × ℕ)) (t : ℕ) → IsStorePacket st z → GivesAny new es z (sent_to g (t + 1)) →
      (is_in st x z ≡ true) × (t < length nss) × IsStep st states (set, z) (slice_index_or nss t [], applied g z)
  pub comes : (z : List ℕ) (n : Node) → IsStorePacket st z → is_in st x z ≡ true → IsStep st states (set, z) n →
      (g : List (ℕ × ℕ)) × (t : ℕ) × GivesAny new es z (sent_to g (t + 1)) × (applied g z ≡ n.1) × (t < length nss) × (slice_index_or nss t [] ≡ n.0)

-- the transitions lead from the packets of these entries exactly where a step of their sets does
pub record AreTransitions (st : StoreState) (ss : List (List ℕ)) (states : List ℕ) (entries : List (ℕ × ℕ)) (new : StoreState) (nss : List (List ℕ)) (ts : List Transitions) : Type 0 where
  pub suits_store : OutsSuitStore new ts
  pub known : (i : ℕ) → Named entries i → i < length ss
  pub goes : (i t : ℕ) (z y : List ℕ) → IsStorePacket st z → IsLed new ts i z t y →
      (i < length ss) × (t < length nss) × IsStep st states (slice_index_or nss i [], z) (slice_index_or nss t [], y)
  pub comes : (i : ℕ) (z : List ℕ) (n : Node) → IsStorePacket st z → Under st entries i z → IsStep st states (slice_index_or nss i [], z) n →
      (t : ℕ) × IsLed new ts i z t n.1 × (t < length nss) × (slice_index_or nss t [] ≡ n.0)
