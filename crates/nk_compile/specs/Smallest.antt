-- The smallest printed table: one switch with one port, the tag as the one field, and the policy that keeps each packet.
use Rattle.std.specs.Prelude.{Some, [], ◌∷◌, codes}
use Rattle.nk_field.specs.Packet.{FieldTable, IsFieldTable}
use Rattle.nk_topo.specs.Topology.{Topology, AreLinks}
use Rattle.nk_policy.specs.After.{id_policy}
use Rattle.nk_policy.specs.Distinct.{HasDistinct}
use Rattle.nk_policy.specs.Ranges.{IsInRange}
use Rattle.nk_names.specs.Accepted.{IsStartPacket, IsCompilable}
use Rattle.nk_table.specs.declared.Tables.{Tables}
use Rattle.nk_table.specs.declared.Table.{Table}
use Rattle.nk_table.specs.declared.Bucket.{Bucket}
use Rattle.nk_table.specs.declared.Target.TheVariants as target
use Rattle.nk_table.specs.declared.Exit.TheVariants.{Back}
use Rattle.nk_compile.specs.WholeTable.{IsTableOf}

-- the tag alone, at place 2, with values 0 to 7
abbrev pub tag_alone : FieldTable
tag_alone = record {
  names = codes "sw" ∷ codes "pt" ∷ codes "tag" ∷ [];
  maxima = 65535 ∷ 65535 ∷ 7 ∷ [];
  tag = Some 2;
}

-- switch 1 with port 1, and no link
abbrev pub one_port : Topology
one_port = record { switches = record { switch = 1; ports = 1 ∷ [] } ∷ []; links = [] }

-- untagged, back to its port
abbrev pub straight_back : Bucket
straight_back = record { sets = (2, 0) ∷ []; exit = Back }

abbrev pub smallest_table : Table
smallest_table = record {
  switch = 1;
  groups = [];
  rows = record { priority = 0; matches = (2, 0, 3) ∷ []; target = target.Bucket straight_back } ∷ [];
}

abbrev pub one_row : Tables
one_row = record { fields = tag_alone; topo = one_port; tables = smallest_table ∷ [] }

-- all that is asked of it by the law on printed tables
abbrev pub MeetsAll : Type 0
MeetsAll =
    IsFieldTable tag_alone
    × AreLinks one_port
    × HasDistinct id_policy
    × IsInRange id_policy tag_alone
    × IsCompilable tag_alone one_port id_policy
    × IsTableOf tag_alone one_port (IsStartPacket tag_alone one_port) id_policy one_row
