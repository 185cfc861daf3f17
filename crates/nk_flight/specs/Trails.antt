-- Copies as they are held: each by the place of its last hop, and each hop by the place of the one before it.
use Rattle.std.specs.Prelude.{◌≡◌, ℕ, zero, suc, ◌<◌, ◌≤◌, ◌⊎◌, Option, Some, None, List, [], ◌∷◌, ◌++◌, map, length, slice_index, slice_index_or, All}
use Rattle.nk_field.specs.Packet.{FieldTable, erased}
use Rattle.nk_topo.specs.Topology.{link_from}
use Rattle.nk_table.specs.declared.Tables.{Tables}
use Rattle.nk_table.specs.Hops.{moved_to}
use Rattle.nk_flight.specs.declared.hops.Hop.{Hop}
use Rattle.nk_flight.specs.declared.copies.Flying.{Flying}
use Rattle.nk_flight.specs.declared.copies.Left.{Left}
use Rattle.nk_flight.specs.Flights.{FlightState, state_of, IsReached}

-- the hop at a place
abbrev pub hop_at : List Hop → ℕ → Hop
hop_at hs i = slice_index_or hs i record { number = 0; crossings = 0; earlier = 0; before = []; packet = [] }

-- what a copy has recorded that came to this hop by so many crossings
abbrev pub records_at : FieldTable → List Hop → ℕ → Hop → List (List ℕ)
records_at fields hs zero h = []
records_at fields hs (suc k) h =
    records_at fields hs k (hop_at hs h.earlier) ++ erased fields h.before ∷ erased fields h.packet ∷ []

-- the copy at a hop
abbrev pub copy_at : FieldTable → List Hop → Hop → Flying
copy_at fields hs h = record { number = h.number; records = records_at fields hs h.crossings h; packet = h.packet }

-- the copies whose hops are at these places
abbrev pub copies_at : FieldTable → List Hop → List ℕ → List Flying
copies_at fields hs places = map (λ i. copy_at fields hs (hop_at hs i)) places

-- the hop of an injected packet
abbrev pub first_hop : ℕ → List ℕ → Hop
first_hop number pk = record { number = number; crossings = 0; earlier = 0; before = pk; packet = pk }

-- the hop over a link, if there is one, of a packet sent for the copy whose hop h is at place i
abbrev pub hop_over : ℕ → Hop → List ℕ → Option (ℕ × ℕ) → List Hop
hop_over i h y None = []
hop_over i h y (Some to) = record { number = h.number; crossings = suc h.crossings; earlier = i; before = y; packet = moved_to to y } ∷ []

abbrev pub hop_of : Tables → ℕ → Hop → List ℕ → List Hop
hop_of t i h y = hop_over i h y (link_from t.topo (slice_index y 0) (slice_index y 1))

-- the hop is that of an injection, or goes on from one of the first n hops
abbrev pub FollowsHop : List Hop → ℕ → Hop → Type 0
FollowsHop hs n h = (h.crossings ≡ 0) ⊎ ((h.earlier < n) × (h.crossings ≡ suc (hop_at hs h.earlier).crossings))

-- each hop goes on from one before it
abbrev pub AreHops : List Hop → Type 0
AreHops hs = (i : ℕ) → i < length hs → FollowsHop hs i (hop_at hs i)

-- the state of these tables, packets, hops, places of copies and histories
abbrev pub state_of_trails : Tables → List (List ℕ) → List Hop → List ℕ → List Left → FlightState
state_of_trails t pks hs places ls = state_of t pks (copies_at t.fields hs places) ls

-- hops go on from one another, each copy has one, copies are no more than hops, and some events lead here from the start
pub record IsSound (t : Tables) (pks : List (List ℕ)) (hs : List Hop) (places : List ℕ) (ls : List Left) : Type 0 where
  pub hops : AreHops hs
  pub there : All (λ i. i < length hs) places
  pub few : length places ≤ length hs
  pub reached : IsReached (state_of_trails t pks hs places ls)
