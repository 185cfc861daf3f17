-- Two switches with ports 1 and 2 each, and one link from 1:2 to 2:1. The policy takes a packet from port 1 of switch 1 over
-- the link, and out of port 2 of switch 2.
use Rattle.std.specs.Prelude.{ℕ, Some, List, [], ◌∷◌, codes}
use Rattle.nk_field.specs.Packet.{FieldTable}
use Rattle.nk_policy.specs.Policy.{Policy, assign, seq_of, no_part, part}
use Rattle.nk_policy.specs.After.{id_policy}
pub use Rattle.nk_policy.specs.Worked.{over_one_link}
use Rattle.nk_table.specs.declared.Tables.{Tables}
use Rattle.nk_table.specs.declared.Table.{Table}
use Rattle.nk_table.specs.declared.Bucket.{Bucket}
use Rattle.nk_table.specs.declared.Target.TheVariants as target
use Rattle.nk_table.specs.declared.Exit.{Exit}
use Rattle.nk_table.specs.declared.Exit.TheVariants.{Back, Port}
use Rattle.nk_table.specs.Worked.{one_link, row, bucket}

-- the switch, the port, dst with values 0 to 3, and the tag vlan with values 0 to 7 at place 3
abbrev pub dst_and_tag : FieldTable
dst_and_tag = record {
  names = codes "sw" ∷ codes "pt" ∷ codes "dst" ∷ codes "vlan" ∷ [];
  maxima = 65535 ∷ 65535 ∷ 3 ∷ 7 ∷ [];
  tag = Some 3;
}

-- what is left of the policy after dup 2: pt:=2
abbrev pub following_link : Policy
following_link = seq_of (part (seq_of (part id_policy no_part)) (part (assign 1 2) no_part))

-- the one tag set, for which tag 1 stands
abbrev pub one_set : List (List ℕ)
one_set = (1 ∷ []) ∷ []

-- with the tag set to this value, out of the exit
abbrev pub tagged : ℕ → Exit → Bucket
tagged n exit = bucket ((3, n) ∷ []) exit

-- switch 1: what comes in untagged at port 1 goes to the link with tag 1
abbrev pub first_table : Table
first_table = record {
  switch = 1;
  groups = [];
  rows = row 2 ((1, 1, 16) ∷ (3, 0, 3) ∷ []) (target.Bucket (tagged 1 (Port 2))) ∷ [];
}

-- switch 2: what has tag 1 leaves untagged by port 2, whether it came in there or not
abbrev pub second_table : Table
second_table = record {
  switch = 2;
  groups = [];
  rows =
      row 2 ((1, 2, 16) ∷ (3, 1, 3) ∷ []) (target.Bucket (tagged 0 Back))
      ∷ row 0 ((3, 1, 3) ∷ []) (target.Bucket (tagged 0 (Port 2)))
      ∷ [];
}

abbrev pub two_tables : Tables
two_tables = record { fields = dst_and_tag; topo = one_link; tables = first_table ∷ second_table ∷ [] }
