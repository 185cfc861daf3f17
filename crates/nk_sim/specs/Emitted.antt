-- The table of a switch, and what a row sends.
use Rattle.std.specs.Prelude.{◌≡◌, ℕ, ◌<◌, ◌==◌, slice_get, slice_index, slice_index_or, Option, Some, None, if◌then◌else◌, List, [], ◌∷◌, filter, filter_map}
use Rattle.std.specs.Option.{option_and_then}
use Rattle.nk_table.specs.declared.Table.{Table}
use Rattle.nk_table.specs.declared.Bucket.{Bucket}
use Rattle.nk_table.specs.Rules.{agrees, highest, buckets_of_row, sent_by}
use Rattle.nk_sim.specs.declared.finder.Finder.{Finder}

-- the first table of a switch
abbrev pub table_of : List Table → ℕ → Option Table
table_of [] sw = None
table_of (t ∷ ts) sw = if t.switch == sw then Some t else table_of ts sw

-- the table that stands at the place of a switch, if it has one
abbrev pub found_by : List (Option ℕ) → List Table → ℕ → Option Table
found_by places ts sw = option_and_then (slice_get ts) (slice_index_or places sw None)

-- the finder finds the first table of each switch
abbrev pub Finds : Finder → List Table → Type 0
Finds f ts = (sw : ℕ) → found_by f.places.items ts sw ≡ table_of ts sw

-- what buckets send for a packet
abbrev pub sent_by_all : List ℕ → List Bucket → List (List ℕ)
sent_by_all pk buckets = filter_map (sent_by pk) buckets

-- what the switch with this table sends; the first list has the largest value of each field
abbrev pub sent_by_table : (maxima pk : List ℕ) → Table → List (List ℕ)
sent_by_table maxima pk t = sent_by_all pk (buckets_of_row t.groups (highest [] (filter (agrees maxima pk) t.rows)))

-- numbers of switches or ports
abbrev pub ArePlaceNumbers : List ℕ → Type 0
ArePlaceNumbers ns = (k : ℕ) → slice_index ns k < 65536
