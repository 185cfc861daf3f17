-- Transitions by the sets that they lead into: a set's diagram has, at each packet that transitions into the set make, an out
-- for each of them.
use Rattle.std.specs.Prelude.{◌≡◌, ℕ, ◌+◌, ◌<◌, ◌≤◌, ◌⊎◌, ◌↔◌, true, nat_eq, List, [], Some, length, slice_index, slice_index_or, Contains}
use Rattle.std.specs.Map.{lookup}
use Rattle.nk_field.specs.Act.{applied}
use Rattle.nk_store.specs.declared.node.Out.{Out}
use Rattle.nk_store.specs.StoreState.{StoreState, IsId, IsWhole, IsStorePacket, look}
use Rattle.nk_sets.specs.PacketSets.{is_in}
use Rattle.nk_sets.specs.declared.outs.OutPackets.{OutPackets}
use Rattle.nk_sets.specs.Outs.{entry, AllSuitStore, GivesAny, sent_to}
use Rattle.nk_backward.specs.declared.transitions.Transitions.{Transitions}
use Rattle.nk_backward.specs.Transitions.{transitions_at}

-- the out of a transition by its two indices: that of its set's transitions among all, and that of its out among their outs
abbrev pub out_at : List Transitions → ℕ × ℕ → OutPackets
out_at ts p = entry (transitions_at ts p.0).outs p.1

-- the list has the two indices of each transition whose first index is below k, and no others
abbrev pub ArePlacesBelow : List Transitions → ℕ → List (ℕ × ℕ) → Type 0
ArePlacesBelow ts k places = (p : ℕ × ℕ) → Contains places p ↔ ((p.0 < k) × (p.1 < length (transitions_at ts p.0).outs))

-- the two indices of the transition of a number
abbrev pub place_at : List (ℕ × ℕ) → ℕ → ℕ × ℕ
place_at places n = slice_index_or places n (0, 0)

-- the out that stands for the transition of a number
abbrev pub transition_out : ℕ → Out
transition_out n = sent_to [] (n + 1)

-- the transition of this number, which leads into the set
abbrev pub IsInto : List Transitions → List (ℕ × ℕ) → ℕ → ℕ → Type 0
IsInto ts places n t = (n < length places) × ((out_at ts (place_at places n)).out.target ≡ t + 1)

-- the transition of this number leads from the packet
abbrev pub LeavesFrom : StoreState → List Transitions → List (ℕ × ℕ) → ℕ → List ℕ → Type 0
LeavesFrom st ts places n z = is_in st (out_at ts (place_at places n)).packets z ≡ true

-- the packet that the transition of this number makes
abbrev pub packet_made : List Transitions → List (ℕ × ℕ) → ℕ → List ℕ → List ℕ
packet_made ts places n z = applied (out_at ts (place_at places n)).out.act z

-- a set with a diagram, at an index
abbrev pub diagram_at : List (ℕ × ℕ) → ℕ → ℕ × ℕ
diagram_at ds k = slice_index_or ds k (0, 0)

-- each set's is a diagram
abbrev pub HaveDiagrams : StoreState → List (ℕ × ℕ) → Type 0
HaveDiagrams st ds = (k : ℕ) → k < length ds → IsId st (diagram_at ds k).1

-- one of the first k diagrams is the set's, and has the out at the packet
abbrev pub ShowsBelow : StoreState → List (ℕ × ℕ) → ℕ → ℕ → List ℕ → Out → Type 0
ShowsBelow st ds k t y o = (j : ℕ) × (j < k) × ((diagram_at ds j).0 ≡ t) × Contains (look st (diagram_at ds j).1 y) o

-- the set's diagram has the out at the packet
abbrev pub Shows : StoreState → List (ℕ × ℕ) → ℕ → List ℕ → Out → Type 0
Shows st into t y o = (d : ℕ) × (lookup (nat_eq t) into ≡ Some d) × Contains (look st d y) o

-- each set's that is found is a diagram
abbrev pub FindDiagrams : StoreState → List (ℕ × ℕ) → Type 0
FindDiagrams st into = (t d : ℕ) → lookup (nat_eq t) into ≡ Some d → IsId st d

-- a diagram for the n-th transition stands after the others, unless it is an end
pub record IsMarked (st : StoreState) (q : OutPackets) (n : ℕ) (old : List (ℕ × ℕ)) (new : StoreState) (all : List (ℕ × ℕ)) : Type 0 where
  pub ids : HaveDiagrams new all
  pub from : (t : ℕ) (y : List ℕ) (o : Out) → IsStorePacket st y → ShowsBelow new all (length all) t y o → ShowsBelow st old (length old) t y o ⊎ ((o ≡ transition_out n) × (q.out.target ≡ t + 1))
  pub kept : (t : ℕ) (y : List ℕ) (o : Out) → ShowsBelow st old (length old) t y o → ShowsBelow new all (length all) t y o
  pub comes : (t : ℕ) (z : List ℕ) → IsStorePacket st z → q.out.target ≡ t + 1 → is_in st q.packets z ≡ true → ShowsBelow new all (length all) t (applied q.out.act z) (transition_out n)

-- the diagrams have the first k transitions
pub record AreMarked (st : StoreState) (ts : List Transitions) (places : List (ℕ × ℕ)) (k : ℕ) (new : StoreState) (ds : List (ℕ × ℕ)) : Type 0 where
  pub ids : HaveDiagrams new ds
  pub goes : (t : ℕ) (y : List ℕ) (o : Out) → IsStorePacket st y → ShowsBelow new ds (length ds) t y o → (n : ℕ) × (o ≡ transition_out n) × IsInto ts places n t
  pub comes : (n t : ℕ) (z : List ℕ) → n < k → IsStorePacket st z → IsInto ts places n t → LeavesFrom st ts places n z → ShowsBelow new ds (length ds) t (packet_made ts places n z) (transition_out n)

-- the diagrams at these indices are of one set, and these are they
pub record IsRunOfSet (ds : List (ℕ × ℕ)) (from to : ℕ) (all : List ℕ) : Type 0 where
  pub later : from < to
  pub within : to ≤ length ds
  pub count : from + length all ≡ to
  pub one : (k : ℕ) → from ≤ k → k < to → (diagram_at ds k).0 ≡ (diagram_at ds from).0
  pub items : (i : ℕ) → i < length all → slice_index all i ≡ (diagram_at ds (from + i)).1

-- the outs of d, and of the set's diagram where one is found
pub record IsWithFound (st : StoreState) (into : List (ℕ × ℕ)) (t d : ℕ) (new : StoreState) (r : ℕ) : Type 0 where
  pub id : IsId new r
  pub from : (y : List ℕ) (o : Out) → IsWhole y → Contains (look new r y) o → Shows st into t y o ⊎ Contains (look st d y) o
  pub found : (y : List ℕ) (o : Out) → IsWhole y → Shows st into t y o → Contains (look new r y) o
  pub comes : (y : List ℕ) (o : Out) → IsWhole y → Contains (look st d y) o → Contains (look new r y) o

-- the set's diagram has the outs of d as well
pub record IsSetJoined (st : StoreState) (into : List (ℕ × ℕ)) (t d : ℕ) (new : StoreState) (all : List (ℕ × ℕ)) : Type 0 where
  pub ids : FindDiagrams new all
  pub from : (s : ℕ) (y : List ℕ) (o : Out) → IsWhole y → Shows new all s y o → Shows st into s y o ⊎ ((s ≡ t) × Contains (look st d y) o)
  pub kept : (s : ℕ) (y : List ℕ) (o : Out) → IsWhole y → Shows st into s y o → Shows new all s y o
  pub comes : (y : List ℕ) (o : Out) → IsWhole y → Contains (look st d y) o → Shows new all t y o

-- each set's diagram has the outs of those of the first k that are its own
pub record AreSetsJoined (st : StoreState) (ds : List (ℕ × ℕ)) (k : ℕ) (new : StoreState) (into : List (ℕ × ℕ)) : Type 0 where
  pub ids : FindDiagrams new into
  pub goes : (t : ℕ) (y : List ℕ) (o : Out) → IsWhole y → Shows new into t y o → ShowsBelow st ds k t y o
  pub comes : (t : ℕ) (y : List ℕ) (o : Out) → IsWhole y → ShowsBelow st ds k t y o → Shows new into t y o

-- by set the transitions into it, at the packets that they make
pub record ArePredecessors (st : StoreState) (ts : List Transitions) (places into : List (ℕ × ℕ)) : Type 0 where
  pub places_are : ArePlacesBelow ts (length ts) places
  pub ids : FindDiagrams st into
  pub goes : (t : ℕ) (y : List ℕ) (o : Out) → IsStorePacket st y → Shows st into t y o → (n : ℕ) × (o ≡ transition_out n) × IsInto ts places n t
  pub comes : (n t : ℕ) (z : List ℕ) → IsStorePacket st z → IsInto ts places n t → LeavesFrom st ts places n z → Shows st into t (packet_made ts places n z) (transition_out n)

-- what the set's diagram has at the packets of x
pub record AreShownAt (st : StoreState) (into : List (ℕ × ℕ)) (t x : ℕ) (new : StoreState) (es : List OutPackets) : Type 0 where
  pub suits_store : AllSuitStore new es
  pub goes : (y : List ℕ) (o : Out) → IsStorePacket st y → GivesAny new es y o → (is_in st x y ≡ true) × Shows st into t y o
  pub comes : (y : List ℕ) (o : Out) → IsStorePacket st y → is_in st x y ≡ true → Shows st into t y o → GivesAny new es y o
