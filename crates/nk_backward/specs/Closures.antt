-- Entries that grow by the packets from where transitions lead to packets of entries, until no more come: a least fixed point by
-- a frontier, as backward reachability over a symbolic graph has it (Clarke, Grumberg and Peled, Model Checking, 1999).
use Rattle.std.specs.Prelude.{◌≡◌, ℕ, ◌+◌, ◌<◌, ◌⊎◌, true, List, length}
use Rattle.nk_store.specs.StoreState.{StoreState, IsStorePacket}
use Rattle.nk_sets.specs.PacketSets.{is_in}
use Rattle.nk_sets.specs.declared.outs.OutPackets.{OutPackets}
use Rattle.nk_sets.specs.Outs.{entry}
use Rattle.nk_determ.specs.Pairs.{Under, Once}
use Rattle.nk_goal.specs.Entries.{HaveSets}
use Rattle.nk_backward.specs.declared.transitions.Transitions.{Transitions}
use Rattle.nk_backward.specs.Transitions.{transitions_at, IsLed, LeadsInto}
use Rattle.nk_backward.specs.Predecessors.{place_at, LeavesFrom, packet_made}

-- the transition that an out stands for leads from the packet z under the set i to a packet of the out
abbrev pub IsTakenOut : StoreState → List Transitions → List (ℕ × ℕ) → OutPackets → ℕ → List ℕ → Type 0
IsTakenOut st ts places q i z =
    (n : ℕ) × (n < length places) × (q.out.target ≡ n + 1) × ((transitions_at ts (place_at places n).0).source ≡ i) × LeavesFrom st ts places n z × (is_in st q.packets (packet_made ts places n z) ≡ true)

-- the transition that one of the first k outs stands for leads from the packet z under the set i to a packet of the out
abbrev pub IsTakenBelow : StoreState → List Transitions → List (ℕ × ℕ) → List OutPackets → ℕ → ℕ → List ℕ → Type 0
IsTakenBelow st ts places es k i z = (j : ℕ) × (j < k) × IsTakenOut st ts places (entry es j) i z

-- a transition leads from the packet z under the set i to a packet of x under the set t
abbrev pub LeadsToSet : StoreState → List Transitions → ℕ → ℕ → ℕ → List ℕ → Type 0
LeadsToSet st ts t x i z = (y : List ℕ) × IsLed st ts i z t y × (is_in st x y ≡ true)

-- a transition leads from the packet z under the set i into the frontier
abbrev pub IsLedInto : StoreState → List Transitions → List (ℕ × ℕ) → ℕ → List ℕ → Type 0
IsLedInto st ts frontier i z = (t : ℕ) × (y : List ℕ) × IsLed st ts i z t y × Under st frontier t y

-- The list has what stood in it before and the packets that come, and no others; a set may stand in it more than once.
pub record AreFound (st : StoreState) (Comes : ℕ → List ℕ → Type 0) (before : List (ℕ × ℕ)) (new : StoreState) (found : List (ℕ × ℕ)) : Type 0 where
  pub from : (i : ℕ) (z : List ℕ) → IsStorePacket st z → Under new found i z → Under st before i z ⊎ Comes i z
  pub kept : (i : ℕ) (z : List ℕ) → IsStorePacket st z → Under st before i z → Under new found i z
  pub every : (i : ℕ) (z : List ℕ) → IsStorePacket st z → Comes i z → Under new found i z
  pub packets : HaveSets new found

-- All entries have what the old ones have and the packets that come; the next ones have what these had before and of the packets
-- that come those that the old entries haven't. Where none of the latter came, the next ones are as they were.
pub record IsGained (st : StoreState) (Comes : ℕ → List ℕ → Type 0) (old before : List (ℕ × ℕ)) (new : StoreState) (all next : List (ℕ × ℕ)) : Type 0 where
  pub from : (i : ℕ) (z : List ℕ) → IsStorePacket st z → Under new all i z → Under st old i z ⊎ Comes i z
  pub kept : (i : ℕ) (z : List ℕ) → IsStorePacket st z → Under st old i z → Under new all i z
  pub every : (i : ℕ) (z : List ℕ) → IsStorePacket st z → Comes i z → Under new all i z
  pub next_from : (i : ℕ) (z : List ℕ) → IsStorePacket st z → Under new next i z → Under st before i z ⊎ (Under new all i z × (Under st old i z → ⊥))
  pub next_kept : (i : ℕ) (z : List ℕ) → IsStorePacket st z → Under st before i z → Under new next i z
  pub next_new : (i : ℕ) (z : List ℕ) → IsStorePacket st z → Under new all i z → (Under st old i z → ⊥) → Under new next i z
  pub packets : HaveSets new all
  pub once : Once all
  pub next_packets : HaveSets new next
  pub next_once : Once next
  pub some : (next ≡ before) ⊎ ((i : ℕ) × (z : List ℕ) × IsStorePacket st z × Under new all i z × (Under st old i z → ⊥))

-- the entries have exactly the packets from where transitions lead into some entries, in any number
pub record IsClosure (st : StoreState) (ts : List Transitions) (goal : List (ℕ × ℕ)) (new : StoreState) (all : List (ℕ × ℕ)) : Type 0 where
  pub sound : (i : ℕ) (z : List ℕ) → IsStorePacket st z → Under new all i z → (n : ℕ) × LeadsInto st ts (Under st goal) n i z
  pub full : (n i : ℕ) (z : List ℕ) → IsStorePacket st z → LeadsInto st ts (Under st goal) n i z → Under new all i z
  pub packets : HaveSets new all
  pub once : Once all

-- the frontier has exactly the packets of the entries
pub record IsWholeFrontier (st : StoreState) (frontier back : List (ℕ × ℕ)) : Type 0 where
  pub packets : HaveSets st frontier
  pub inside : (i : ℕ) (z : List ℕ) → IsStorePacket st z → Under st frontier i z → Under st back i z
  pub whole : (i : ℕ) (z : List ℕ) → IsStorePacket st z → Under st back i z → Under st frontier i z
