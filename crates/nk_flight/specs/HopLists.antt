-- Hops as they are held: each with the places of its two packets among packets that hops share.
use Rattle.std.specs.Prelude.{ℕ, ◌<◌, List, [], map, slice_index_or}
use Rattle.nk_flight.specs.declared.hops.Hop.{Hop}
use Rattle.nk_flight.specs.declared.hop_list.HeldHop.{HeldHop}

-- the packet at a place
abbrev pub packet_at : List (List ℕ) → ℕ → List ℕ
packet_at pks i = slice_index_or pks i []

-- the hop with its packets
abbrev pub hop_held : List (List ℕ) → HeldHop → Hop
hop_held pks h = record { number = h.number; crossings = h.crossings; earlier = h.earlier; before = packet_at pks h.before; packet = packet_at pks h.packet }

abbrev pub hops_held : List (List ℕ) → List HeldHop → List Hop
hops_held pks hs = map (hop_held pks) hs

-- its packets are among the first n
abbrev pub IsHeldAmong : ℕ → HeldHop → Type 0
IsHeldAmong n h = (h.before < n) × (h.packet < n)
