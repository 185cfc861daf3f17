-- Small instances: the smallest table, a switch without packets, a policy that is accepted and one that is refused, and a least
-- difference.
use Rattle.std.specs.Prelude.{◌≡◌, ℕ, List, [], ◌∷◌}
use Rattle.nk_field.specs.Order.{Found}
use Rattle.nk_field.specs.Packet.{built_in}
use Rattle.nk_topo.specs.Topology.{Topology}
use Rattle.nk_policy.specs.After.{id_policy, drop_policy}
use Rattle.nk_policy.specs.Labels.{IsTagSet, AtMost}
use Rattle.nk_names.specs.Accepted.{IsStartPacket, IsCompilable}
use Rattle.nk_table.specs.declared.Row.{Row}
use Rattle.nk_table.specs.declared.Tables.{Tables}
use Rattle.nk_compile.specs.declared.refusal.Refusal.TheVariants.{NoTag}
use Rattle.nk_compile.specs.Refusals.{IsReason}
use Rattle.nk_compile.specs.Smallest.{tag_alone, one_port, smallest_table}
use Rattle.nk_compile.specs.WholeTable.{IsTableOf}
use Rattle.nk_cert.specs.Equality.{on_left, IsLeastDifference}
use Rattle.nk_uniqueness.specs.Packets.{HavePackets}

-- switch 65536 with port 1: no value of the switch in range is that number
abbrev pub far_port : Topology
far_port = record { switches = record { switch = 65536; ports = 1 ∷ [] } ∷ []; links = [] }

-- tables with these rows there
abbrev pub far_tables : List Row → Tables
far_tables rows = record {
  fields = tag_alone;
  topo = far_port;
  tables = record { switch = 65536; groups = []; rows = rows } ∷ [];
}

-- the rows are the printed ones there, of the policy that keeps each packet
abbrev pub ArePrintedFar : List Row → Type 0
ArePrintedFar rows = IsTableOf tag_alone far_port (IsStartPacket tag_alone far_port) id_policy (far_tables rows)

-- a switch without packets has two printed tables, with a row and without
pub record HasSeveralTables : Type 0 where
  pub one_row : ArePrintedFar smallest_table.rows
  pub no_row : ArePrintedFar []
  pub differ : far_tables smallest_table.rows ≡ far_tables [] → ⊥
  pub without_packets : HavePackets tag_alone far_port → ⊥

-- what each law asks of a policy is met: one is accepted, with packets at its switch, and without a tag one is refused
pub record AreMetBySmallPolicy : Type 0 where
  pub packets : HavePackets tag_alone one_port
  pub compilable : IsCompilable tag_alone one_port id_policy
  pub few : AtMost 7 (IsTagSet id_policy (IsStartPacket tag_alone one_port))
  pub refused : IsReason built_in one_port id_policy NoTag

-- the packet of zeros
abbrev pub zeros : List ℕ
zeros =
    0 ∷ 0 ∷ 0 ∷ 0 ∷ 0 ∷ 0 ∷ 0 ∷ 0 ∷ 0 ∷ 0 ∷ 0 ∷ 0 ∷ 0 ∷ 0 ∷ 0 ∷ 0 ∷ 0 ∷ 0 ∷ []

-- it stays as it is
abbrev pub zeros_stay : Found
zeros_stay = record { start = zeros; records = []; last = zeros }

-- of the policy that keeps each packet and the one that drops each packet, that is the least difference
abbrev pub IsSmallDifference : Type 0
IsSmallDifference = IsLeastDifference built_in id_policy drop_policy on_left zeros_stay
