-- Copies as they are held: each by the place of its last crossing, and each crossing by that of the one before it.
use Rattle.std.specs.Prelude.{◌≡◌, ℕ, zero, suc, ◌<◌, Option, None, Some, List, [], ◌∷◌, ◌++◌, map, length, slice_index, slice_index_or, All}
use Rattle.std.specs.List.{flat_map}
use Rattle.std.specs.List.Sorted.{IsPermutation}
use Rattle.nk_field.specs.Packet.{erased}
use Rattle.nk_field.specs.declared.history.History.{History}
use Rattle.nk_topo.specs.Topology.{link_from}
use Rattle.nk_table.specs.declared.Tables.{Tables}
use Rattle.nk_table.specs.Rules.{sent_for}
use Rattle.nk_table.specs.Hops.{Copy, moved_to, across, leaving, waiting}
use Rattle.nk_sim.specs.declared.transit.Crossing.{Crossing}
use Rattle.nk_sim.specs.declared.transit.Flying.{Flying}
use Rattle.nk_sim.specs.declared.tracing.State.{State}
use Rattle.nk_sim.specs.Traces.{as_history, histories_before, AreOrderedFrom}

-- the crossing at a place
abbrev pub crossing_at : List Crossing → ℕ → Crossing
crossing_at cs i = slice_index_or cs i record { earlier = 0; before = []; after = [] }

-- the records of k crossings, the last of which is at this place
abbrev pub trail : List Crossing → ℕ → ℕ → List (List ℕ)
trail cs zero i = []
trail cs (suc k) i =
    trail cs k (crossing_at cs i).earlier ++ (crossing_at cs i).before ∷ (crossing_at cs i).after ∷ []

-- these k crossings are there
abbrev pub HasTrail : List Crossing → ℕ → ℕ → Type 0
HasTrail cs zero i = Unit {0}
HasTrail cs (suc k) i = (i < length cs) × HasTrail cs k (crossing_at cs i).earlier

-- those of each copy
abbrev pub HaveTrails : List Crossing → ℕ → List Flying → Type 0
HaveTrails cs k fs = All (λ f. HasTrail cs k f.last) fs

-- a copy that is held, after k crossings
abbrev pub copy_of : List Crossing → ℕ → Flying → Copy
copy_of cs k f = record { records = trail cs k f.last; packet = f.packet }

abbrev pub copies_of : List Crossing → ℕ → List Flying → List Copy
copies_of cs k fs = map (copy_of cs k) fs

-- what a switch sends for a copy that is held
abbrev pub sent_flying : Tables → Flying → List Flying
sent_flying t f = map (λ y. record { last = f.last; packet = y }) (sent_for t f.packet)

-- what a sent copy leads to by a crossing, and the copy with which it leaves
abbrev pub crossed : Tables → Copy → List Copy
crossed t s = across t s.records s.packet

abbrev pub leaves : Tables → Copy → List Copy
leaves t s = leaving t s.records s.packet

-- the histories with which a sent copy leaves, after k crossings
abbrev pub left_by_hops : Tables → List Crossing → ℕ → Flying → List History
left_by_hops t cs k f = map as_history (leaves t (copy_of cs k f))

-- the crossing that a sent copy makes along a link, if there is one
abbrev pub crossing_by : Tables → Flying → Option (ℕ × ℕ) → List Crossing
crossing_by t s None = []
crossing_by t s (Some to) = record { earlier = s.last; before = erased t.fields s.packet; after = erased t.fields (moved_to to s.packet) } ∷ []

-- the copy after it, where the crossing is held at place n
abbrev pub flying_by : ℕ → Flying → Option (ℕ × ℕ) → List Flying
flying_by n s None = []
flying_by n s (Some to) = record { last = n; packet = moved_to to s.packet } ∷ []

-- where a sent copy's link leads
abbrev pub link_of_sent : Tables → Flying → Option (ℕ × ℕ)
link_of_sent t s = link_from t.topo (slice_index s.packet 0) (slice_index s.packet 1)

-- with more crossings held, these are the copies that the sent ones lead to
pub record AreCrossed (t : Tables) (cs ds : List Crossing) (k : ℕ) (sent next : List Flying) : Type 0 where
  pub more : List Crossing
  pub grown : ds ≡ cs ++ more
  pub copies : copies_of ds (suc k) next ≡ flat_map (crossed t) (copies_of cs k sent)
  pub trails : HaveTrails ds (suc k) next

-- these are the copies that wait after k crossings
pub record AreWaiting (t : Tables) (pk : List ℕ) (k : ℕ) (cs : List Crossing) (fs : List Flying) : Type 0 where
  pub copies : copies_of cs k fs ≡ waiting t k pk
  pub trails : HaveTrails cs k fs

-- the copies that wait after k crossings, and the histories that left before
pub record IsAt (t : Tables) (pk : List ℕ) (k : ℕ) (s : State) : Type 0 where
  pub waits : AreWaiting t pk k s.crossings.items s.waiting.items
  pub all : IsPermutation (histories_before t k pk) s.histories.items
  pub ordered : AreOrderedFrom pk s.histories.items

-- records and last packets of histories are of the same lengths, and there are as many records
abbrev pub HaveOneLength : List History → Type 0
HaveOneLength hs = (n m : ℕ) × All (λ (h : History). (length h.records ≡ m) × All (λ p. length p ≡ n) h.records × (length h.last ≡ n)) hs

-- the second list has the histories of the first, in order where they are of the same lengths
pub record IsSortedFrom (hs sorted : List History) : Type 0 where
  pub all : IsPermutation hs sorted
  pub ordered : HaveOneLength hs → (pk : List ℕ) → AreOrderedFrom pk sorted
