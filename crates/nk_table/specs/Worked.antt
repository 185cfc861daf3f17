-- Tables written out, and what acts, is sent and leaves by them, worked by hand.
use Rattle.std.specs.Prelude.{◌≡◌, ℕ, Some, None, List, [], ◌∷◌}
use Rattle.nk_field.specs.Packet.{FieldTable}
use Rattle.nk_topo.specs.Topology.{Topology}
use Rattle.nk_table.specs.declared.Tables.{Tables}
use Rattle.nk_table.specs.declared.Target.{Target}
use Rattle.nk_table.specs.declared.Target.TheVariants as target
use Rattle.nk_table.specs.declared.Exit.TheVariants.{Back, Port}
use Rattle.nk_table.specs.declared.Exit.{Exit}
use Rattle.nk_table.specs.declared.Row.{Row}
use Rattle.nk_table.specs.declared.Bucket.{Bucket}
use Rattle.nk_table.specs.declared.Group.{Group}
use Rattle.nk_table.specs.Rules.{row_for, sent_for}
use Rattle.nk_table.specs.Hops.{waiting, left_after}

-- switch, port, dst and vlan
abbrev pub packet : ℕ → ℕ → ℕ → ℕ → List ℕ
packet sw pt dst vlan = sw ∷ pt ∷ dst ∷ vlan ∷ 0 ∷ 0 ∷ 0 ∷ 0 ∷ 0 ∷ 0 ∷ 0 ∷ 0 ∷ 0 ∷ 0 ∷ 0 ∷ 0 ∷ 0 ∷ 0 ∷ []

abbrev pub two_fields : FieldTable
two_fields = record { names = []; maxima = 65535 ∷ 65535 ∷ 3 ∷ 7 ∷ []; tag = Some 3 }

-- two switches with ports 1 and 2, and a link from 1:2 to 2:1
abbrev pub one_link : Topology
one_link = record {
  switches = record { switch = 1; ports = 1 ∷ 2 ∷ [] } ∷ record { switch = 2; ports = 1 ∷ 2 ∷ [] } ∷ [];
  links = record { from_switch = 1; from_port = 2; to_switch = 2; to_port = 1 } ∷ [];
}

abbrev pub row : ℕ → List (ℕ × ℕ × ℕ) → Target → Row
row priority matches target = record { priority = priority; matches = matches; target = target }

abbrev pub bucket : List (ℕ × ℕ) → Exit → Bucket
bucket sets exit = record { sets = sets; exit = exit }

abbrev pub one_crossing : Tables
one_crossing = record {
  fields = two_fields;
  topo = one_link;
  tables =
      record { switch = 1; groups = []; rows = row 2 ((3, 0, 3) ∷ (1, 1, 16) ∷ []) (target.Bucket (bucket ((3, 1) ∷ []) (Port 2))) ∷ [] }
      ∷ record {
        switch = 2;
        groups = [];
        rows =
            row 2 ((3, 1, 3) ∷ (1, 2, 16) ∷ []) (target.Bucket (bucket ((3, 0) ∷ []) Back))
            ∷ row 0 ((3, 1, 3) ∷ []) (target.Bucket (bucket ((3, 0) ∷ []) (Port 2)))
            ∷ [];
      }
      ∷ [];
}

-- a packet that enters at 1:1 with dst 3 leaves at 2:2 after one crossing, and at once it leaves nowhere
abbrev pub CrossesOnce : Type 0
CrossesOnce =
    (left_after one_crossing 0 (packet 1 1 3 0) ≡ [])
    × (left_after one_crossing 1 (packet 1 1 3 0) ≡ record { records = packet 1 2 3 0 ∷ packet 2 1 3 0 ∷ []; packet = packet 2 2 3 0 } ∷ [])
    × (waiting one_crossing 2 (packet 1 1 3 0) ≡ [])

-- one switch with ports 1 and 2, and these groups and rows
abbrev pub one_table : List Group → List Row → Tables
one_table groups rows = record {
  fields = two_fields;
  topo = record { switches = record { switch = 1; ports = 1 ∷ 2 ∷ [] } ∷ []; links = [] };
  tables = record { switch = 1; groups = groups; rows = rows } ∷ [];
}

-- two rows of one priority, and one below them
abbrev pub tied : Tables
tied =
    one_table [] (
    row 5 ((1, 1, 16) ∷ []) (target.Bucket (bucket [] (Port 2)))
    ∷ row 5 ((2, 3, 2) ∷ []) (target.Bucket (bucket [] (Port 2)))
    ∷ row 4 [] (target.Bucket (bucket [] Back))
    ∷ [])

-- Where both match, neither acts, nor does the lower row; where one of them matches it acts; where none does, the
-- lower one acts. A switch without a table drops.
abbrev pub TiesDrop : Type 0
TiesDrop =
    (row_for tied 1 (packet 1 1 3 0) ≡ None)
    × (left_after tied 0 (packet 1 1 3 0) ≡ [])
    × (left_after tied 0 (packet 1 1 0 0) ≡ record { records = []; packet = packet 1 2 0 0 } ∷ [])
    × (left_after tied 0 (packet 1 2 0 0) ≡ record { records = []; packet = packet 1 2 0 0 } ∷ [])
    × (row_for tied 2 (packet 2 1 0 0) ≡ None)

-- each packet to port 1, and one of dst 2 to port 9, which isn't declared
abbrev pub to_port_one : Tables
to_port_one =
    one_table [] (
    row 1 ((2, 2, 2) ∷ []) (target.Bucket (bucket [] (Port 9)))
    ∷ row 0 [] (target.Bucket (bucket [] (Port 1)))
    ∷ [])

-- Nothing is sent to the port where the packet came in. What is sent to no declared port neither leaves nor crosses.
abbrev pub SendsToAnotherPort : Type 0
SendsToAnotherPort =
    (sent_for to_port_one (packet 1 1 0 0) ≡ [])
    × (sent_for to_port_one (packet 1 2 0 0) ≡ packet 1 1 0 0 ∷ [])
    × (sent_for to_port_one (packet 1 1 2 0) ≡ packet 1 9 2 0 ∷ [])
    × (left_after to_port_one 0 (packet 1 1 2 0) ≡ [])
    × (waiting to_port_one 1 (packet 1 1 2 0) ≡ [])

-- a group of three buckets, the last two alike, and a row that drops
abbrev pub grouped : Tables
grouped =
    one_table
    (record {
      number = 7;
      buckets = bucket ((2, 1) ∷ []) (Port 2) ∷ bucket ((3, 4) ∷ []) Back ∷ bucket ((3, 4) ∷ []) Back ∷ [];
    } ∷ [])
    (row 3 ((2, 0, 2) ∷ []) target.Discard ∷ row 2 [] (target.Group 7) ∷ [])

-- Each bucket has a copy of its own, in order, and equal copies stand twice. The row that drops sends nothing.
abbrev pub GroupsCopy : Type 0
GroupsCopy =
    (sent_for grouped (packet 1 1 3 0) ≡ packet 1 2 1 0 ∷ packet 1 1 3 4 ∷ packet 1 1 3 4 ∷ [])
    × (sent_for grouped (packet 1 2 3 0) ≡ packet 1 2 3 4 ∷ packet 1 2 3 4 ∷ [])
    × (sent_for grouped (packet 1 1 0 0) ≡ [])
    × (row_for grouped 1 (packet 1 1 0 0) ≡ Some (row 3 ((2, 0, 2) ∷ []) target.Discard))

-- A vlan has three digits. Where it is 4 or 5 a packet goes to port 1, and where it is 6 or 7 to port 2. Two higher rows
-- match 7 alone, the second by a length above the digits. The lowest row matches each vlan, and of dst 3 alone.
abbrev pub prefixes : Tables
prefixes =
    one_table [] (
    row 2 ((3, 4, 2) ∷ []) (target.Bucket (bucket [] (Port 1)))
    ∷ row 2 ((3, 6, 2) ∷ []) (target.Bucket (bucket [] (Port 2)))
    ∷ row 3 ((3, 7, 3) ∷ []) (target.Bucket (bucket [] Back))
    ∷ row 3 ((3, 7, 4) ∷ []) (target.Bucket (bucket [] Back))
    ∷ row 1 ((3, 0, 0) ∷ (2, 3, 2) ∷ []) (target.Bucket (bucket [] Back))
    ∷ [])

-- A prefix matches the values with its first digits, and no others. The two rows of 7 tie.
abbrev pub PrefixesMatch : Type 0
PrefixesMatch =
    (sent_for prefixes (packet 1 9 3 4) ≡ packet 1 1 3 4 ∷ [])
    × (sent_for prefixes (packet 1 9 3 5) ≡ packet 1 1 3 5 ∷ [])
    × (sent_for prefixes (packet 1 9 3 6) ≡ packet 1 2 3 6 ∷ [])
    × (row_for prefixes 1 (packet 1 9 3 7) ≡ None)
    × (sent_for prefixes (packet 1 9 3 3) ≡ packet 1 9 3 3 ∷ [])
    × (sent_for prefixes (packet 1 9 2 3) ≡ [])
