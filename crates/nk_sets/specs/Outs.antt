-- Which packets of a diagram have which out.
use Rattle.std.specs.Prelude.{◌≡◌, ℕ, ◌-◌, ◌<◌, ◌≤◌, nat_eq, nat_le, true, List, [], ◌∷◌, ◌++◌, if◌then◌else◌, Option, Some, None, map, length, slice_index, slice_index_or, Contains}
use Rattle.std.specs.Map.{lookup}
use Rattle.nk_store.specs.declared.node.Out.{Out}
use Rattle.nk_store.specs.Leaves.{Suits}
use Rattle.nk_store.specs.Nodes.{child_at, Each}
use Rattle.nk_store.specs.StoreState.{StoreState, IsId, IsWhole, IsStorePacket, IsChild, HasLeaves, AreParts, look, root_field}
use Rattle.nk_apply.specs.Seqs.{no_out}
use Rattle.nk_apply.specs.Predicates.{IsPredicate}
use Rattle.nk_sets.specs.PacketSets.{is_in, IsSet}
use Rattle.nk_sets.specs.declared.groups.Stretch.{Stretch}
use Rattle.nk_sets.specs.declared.outs.OutPackets.{OutPackets}

-- the out with this act and target
abbrev pub sent_to : List (ℕ × ℕ) → ℕ → Out
sent_to g t = record { act = g; target = t }

-- the out, with these packets
abbrev pub out_with_packets : ℕ → Out → OutPackets
out_with_packets packets o = record { out = o; packets = packets }

-- what stands at a place, or nothing
abbrev pub entry : List OutPackets → ℕ → OutPackets
entry es k = slice_index_or es k (out_with_packets 0 no_out)

-- the out suits the store, and the packets are a set
pub record SuitsStore (st : StoreState) (e : OutPackets) : Type 0 where
  pub suits : Suits st.maxes e.out
  pub packets : IsSet st e.packets

-- each entry is so
abbrev pub AllSuitStore : StoreState → List OutPackets → Type 0
AllSuitStore st es = (k : ℕ) → k < length es → SuitsStore st (entry es k)

-- no entry's set tests a field before f
abbrev pub AreLater : StoreState → ℕ → List OutPackets → Type 0
AreLater st f es = (k : ℕ) → k < length es → f ≤ root_field st (entry es k).packets

-- an entry at one of these places has the out, and its set has the packet
abbrev pub GivesOut : StoreState → List OutPackets → ℕ → ℕ → List ℕ → Out → Type 0
GivesOut st es from to x o = (k : ℕ) × (from ≤ k) × (k < to) × ((entry es k).out ≡ o) × (is_in st (entry es k).packets x ≡ true)

-- an entry at some place has the out, and its set has the packet
abbrev pub GivesAny : StoreState → List OutPackets → List ℕ → Out → Type 0
GivesAny st es x o = GivesOut st es 0 (length es) x o

-- the entries have for each out of the diagram exactly the packets with that out
pub record IsByOut (st : StoreState) (d : ℕ) (es : List OutPackets) : Type 0 where
  pub id : IsId st d
  pub suits_store : AllSuitStore st es
  pub later : AreLater st (root_field st d) es
  pub goes : (x : List ℕ) (o : Out) → IsStorePacket st x → GivesAny st es x o → Contains (look st d x) o
  pub comes : (x : List ℕ) (o : Out) → IsStorePacket st x → Contains (look st d x) o → GivesAny st es x o

-- each diagram that is kept leads to its entries
abbrev pub AreByOut : StoreState → List (ℕ × List OutPackets) → Type 0
AreByOut st kept = (d : ℕ) (es : List OutPackets) → lookup (nat_eq d) kept ≡ Some es → IsByOut st d es

-- the entry for the values of an interval
abbrev pub stretch : ℕ → ℕ → OutPackets → Stretch
stretch from end e = record { out = e.out; from = from; end = end; packets = e.packets }

-- the entries for the values of an interval, where there are entries
abbrev pub stretches : ℕ → ℕ → Option (List OutPackets) → List Stretch
stretches from end None = []
stretches from end (Some es) = map (stretch from end) es

-- what stands at a place, or nothing
abbrev pub piece : List Stretch → ℕ → Stretch
piece ss k = slice_index_or ss k (stretch 0 0 (out_with_packets 0 no_out))

-- the out suits the store, the packets are a set of fields after f, and the interval has values of f
pub record IsStretch (st : StoreState) (f : ℕ) (s : Stretch) : Type 0 where
  pub suits : Suits st.maxes s.out
  pub child : IsChild st f s.packets
  pub predicate : IsPredicate st s.packets
  pub order : s.from ≤ s.end
  pub within : s.end ≤ slice_index st.maxes f

-- each one is so
abbrev pub AreStretches : StoreState → ℕ → List Stretch → Type 0
AreStretches st f ss = (k : ℕ) → k < length ss → IsStretch st f (piece ss k)

-- one at these places has the out and the value, and its set has the packet
abbrev pub HasAt : StoreState → List Stretch → ℕ → ℕ → ℕ → List ℕ → Out → Type 0
HasAt st ss from to v x o = (k : ℕ) × (from ≤ k) × (k < to) × ((piece ss k).out ≡ o) × ((piece ss k).from ≤ v) × (v ≤ (piece ss k).end) × (is_in st (piece ss k).packets x ≡ true)

-- a stretch at some place has the out and the packet's own value of f, and its set has the packet
abbrev pub HasAny : StoreState → ℕ → List Stretch → List ℕ → Out → Type 0
HasAny st f ss x o = HasAt st ss 0 (length ss) (slice_index x f) x o

-- they are those of the diagram at the packets whose value of the field is below a bound
pub record IsUpTo (old : StoreState) (d f bound : ℕ) (new : StoreState) (ss : List Stretch) : Type 0 where
  pub stretches : AreStretches new f ss
  pub goes : (x : List ℕ) (o : Out) → IsStorePacket old x → HasAny new f ss x o → Contains (look old d x) o
  pub comes : (x : List ℕ) (o : Out) → IsStorePacket old x → slice_index x f < bound → Contains (look old d x) o → HasAny new f ss x o

-- they have for each out of a diagram that tests f first exactly the packets with that out
pub record AreOfDiagram (st : StoreState) (f d : ℕ) (ss : List Stretch) : Type 0 where
  pub id : IsId st d
  pub first : root_field st d ≡ f
  pub stretches : AreStretches st f ss
  pub goes : (x : List ℕ) (o : Out) → IsStorePacket st x → HasAny st f ss x o → Contains (look st d x) o
  pub comes : (x : List ℕ) (o : Out) → IsStorePacket st x → Contains (look st d x) o → HasAny st f ss x o

-- the first n of them and the entries made of them have the same packets for each out
pub record AreUnited (old : StoreState) (f : ℕ) (ss : List Stretch) (n : ℕ) (new : StoreState) (made : List OutPackets) : Type 0 where
  pub suits_store : AllSuitStore new made
  pub later : AreLater new f made
  pub from : (x : List ℕ) (o : Out) → IsStorePacket old x → GivesAny new made x o → HasAt old ss 0 n (slice_index x f) x o
  pub more : (x : List ℕ) (o : Out) → IsStorePacket old x → HasAt old ss 0 n (slice_index x f) x o → GivesAny new made x o

-- the set of no packets, which tests no field
pub record IsNone (st : StoreState) (d : ℕ) : Type 0 where
  pub leaves : HasLeaves st d (λ pk. [])
  pub later : root_field st d ≡ 18

-- the parts, with one of no packets for the values from next up to a value
abbrev pub with_gap : ℕ → ℕ → ℕ → List (ℕ × ℕ) → List (ℕ × ℕ)
with_gap next none from parts = if nat_le from next then parts else parts ++ (from - 1, none) ∷ []

-- the parts, with the stretch's one after them, and what is between of no packets
abbrev pub with_stretch : ℕ → ℕ → Stretch → List (ℕ × ℕ) → List (ℕ × ℕ)
with_stretch next none s parts = with_gap next none s.from parts ++ (s.end, s.packets) ∷ []

-- those at these places have the out of the first one
abbrev pub HaveOneOut : List Stretch → ℕ → ℕ → Type 0
HaveOneOut ss from to = (k : ℕ) → from ≤ k → k < to → (piece ss k).out ≡ (piece ss from).out

-- those at these places have one out, and at each value of f the parts have their packets
pub record HaveRun (st : StoreState) (f : ℕ) (ss : List Stretch) (from to : ℕ) (parts : List (ℕ × ℕ)) : Type 0 where
  pub later : from < to
  pub within : to ≤ length ss
  pub alike : HaveOneOut ss from to
  pub parts_ok : AreParts st f parts
  pub sets : Each (IsPredicate st) parts
  pub goes : (v : ℕ) (x : List ℕ) → IsWhole x → v ≤ slice_index st.maxes f → is_in st (child_at 0 parts v) x ≡ true → HasAt st ss from to v x (piece ss from).out
  pub comes : (v : ℕ) (x : List ℕ) (o : Out) → IsWhole x → v ≤ slice_index st.maxes f → HasAt st ss from to v x o → is_in st (child_at 0 parts v) x ≡ true

-- those at these places have one out, and the set has their packets
pub record IsRunOf (old : StoreState) (f : ℕ) (ss : List Stretch) (from to : ℕ) (new : StoreState) (p : ℕ) : Type 0 where
  pub later : from < to
  pub within : to ≤ length ss
  pub alike : HaveOneOut ss from to
  pub packets : IsSet new p
  pub first : f ≤ root_field new p
  pub goes : (x : List ℕ) → IsStorePacket old x → is_in new p x ≡ true → HasAt old ss from to (slice_index x f) x (piece ss from).out
  pub comes : (x : List ℕ) (o : Out) → IsStorePacket old x → HasAt old ss from to (slice_index x f) x o → is_in new p x ≡ true
