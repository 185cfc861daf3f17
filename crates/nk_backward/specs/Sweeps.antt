-- Entries taken back along all transitions in turn, each time with what came before in the same turn: round-robin iteration to a
-- least fixed point (Aho, Lam, Sethi and Ullman, Compilers, 2006).
use Rattle.std.specs.Prelude.{◌≡◌, ℕ, ◌+◌, ◌⊎◌, Bool, true, List, length}
use Rattle.nk_field.specs.Act.{applied}
use Rattle.nk_store.specs.StoreState.{StoreState, IsStorePacket}
use Rattle.nk_sets.specs.PacketSets.{is_in}
use Rattle.nk_sets.specs.declared.outs.OutPackets.{OutPackets}
use Rattle.nk_sets.specs.Outs.{GivesOut, sent_to}
use Rattle.nk_determ.specs.Pairs.{Under, Once}
use Rattle.nk_goal.specs.Entries.{HaveSets}
use Rattle.nk_backward.specs.declared.transitions.Transitions.{Transitions}
use Rattle.nk_backward.specs.Transitions.{IsLed, LeadsInto}

-- the out leads from the packet z under the set s to a packet of an entry
abbrev pub IsLedOut : StoreState → ℕ → OutPackets → List (ℕ × ℕ) → ℕ → List ℕ → Type 0
IsLedOut st s q all i z = (i ≡ s) × (is_in st q.packets z ≡ true) × ((u : ℕ) × (u + 1 ≡ q.out.target) × Under st all u (applied q.out.act z))

-- one of the first k outs of a set leads from the packet z to a packet of an entry
abbrev pub IsLedBy : StoreState → Transitions → ℕ → List (ℕ × ℕ) → ℕ → List ℕ → Type 0
IsLedBy st t k all i z = (i ≡ t.source) × ((u : ℕ) × (g : List (ℕ × ℕ)) × GivesOut st t.outs 0 k z (sent_to g (u + 1)) × Under st all u (applied g z))

-- All entries have what the old ones have and the packets that come, and no others. If the bool is true, none of the latter is new.
pub record IsWidened (st : StoreState) (Comes : ℕ → List ℕ → Type 0) (old : List (ℕ × ℕ)) (new : StoreState) (all : List (ℕ × ℕ)) (none : Bool) : Type 0 where
  pub from : (i : ℕ) (z : List ℕ) → IsStorePacket st z → Under new all i z → Under st old i z ⊎ Comes i z
  pub kept : (i : ℕ) (z : List ℕ) → IsStorePacket st z → Under st old i z → Under new all i z
  pub every : (i : ℕ) (z : List ℕ) → IsStorePacket st z → Comes i z → Under new all i z
  pub same : none ≡ true → (i : ℕ) (z : List ℕ) → IsStorePacket st z → Under new all i z → Under st old i z
  pub packets : HaveSets new all
  pub once : Once all

-- the entries have gained the packets from where the transitions lead into the old ones, and if the bool is true, none of them is new
abbrev pub IsTakenBack : StoreState → Transitions → List (ℕ × ℕ) → StoreState → List (ℕ × ℕ) → Bool → Type 0
IsTakenBack st t old new all none = IsWidened st (IsLedBy st t (length t.outs) old) old new all none

-- The entries have the packets of the goal, and some from where transitions lead to it. If they are closed, each transition into
-- them leads from them.
pub record IsSwept (st : StoreState) (ts : List Transitions) (goal : List (ℕ × ℕ)) (new : StoreState) (all : List (ℕ × ℕ)) (closed : Bool) : Type 0 where
  pub sound : (i : ℕ) (z : List ℕ) → IsStorePacket st z → Under new all i z → (n : ℕ) × LeadsInto st ts (Under st goal) n i z
  pub kept : (i : ℕ) (z : List ℕ) → IsStorePacket st z → Under st goal i z → Under new all i z
  pub packets : HaveSets new all
  pub once : Once all
  pub shut : closed ≡ true → (i : ℕ) (z : List ℕ) (t : ℕ) (y : List ℕ) → IsStorePacket st z → IsLed st ts i z t y → Under new all t y → Under new all i z
