-- What the law on printed tables asks, of two switches and one link: its premises, what the tables do there, and that a
-- program has the policy and is accepted.
use Rattle.std.specs.Prelude.{◌≡◌, ℕ, Some, List, [], ◌∷◌, ◌++◌, codes}
use Rattle.nk_field.specs.Packet.{IsFieldTable}
use Rattle.nk_topo.specs.Topology.{AreLinks}
use Rattle.nk_policy.specs.Policy.{Policy}
use Rattle.nk_policy.specs.Meaning.{Gives}
use Rattle.nk_policy.specs.Distinct.{HasDistinct}
use Rattle.nk_policy.specs.Ranges.{IsInRange}
use Rattle.nk_policy.specs.Tags.{AreTags}
use Rattle.nk_names.specs.Accepted.{IsStartPacket, IsCompilable, IsAccepted}
use Rattle.nk_names.specs.Named.{policy_named}
use Rattle.nk_names.specs.ProgramValue.{IsProgram}
use Rattle.nk_names.specs.declared.Program.{Program}
use Rattle.nk_table.specs.Worked.{one_link, packet}
use Rattle.nk_table.specs.Hops.{Copy, left_after, waiting}
use Rattle.nk_tabtext.specs.InOrder.{AreInOrder}
use Rattle.nk_tabtext.specs.Text.{table_bytes}
use Rattle.nk_compile.specs.WholeTable.{IsTableOf}
use Rattle.nk_compile.specs.Carries.{Carries}
use Rattle.nk_worked.specs.TwoSwitches.{dst_and_tag, over_one_link, one_set, two_tables}

-- the tables are those that are printed for the policy, with all that the law asks of a compilable policy
pub record IsPrintedThere : Type 0 where
  pub fields : IsFieldTable dst_and_tag
  pub links : AreLinks one_link
  pub distinct : HasDistinct over_one_link
  pub in_range : IsInRange over_one_link dst_and_tag
  pub compilable : IsCompilable dst_and_tag one_link over_one_link
  pub one_tag : AreTags over_one_link (IsStartPacket dst_and_tag one_link) one_set
  pub table : IsTableOf dst_and_tag one_link (IsStartPacket dst_and_tag one_link) over_one_link two_tables

-- the program whose one let has the name p
abbrev pub program_with : Policy → Program
program_with q = record { fields = dst_and_tag; topo = one_link; lets = (codes "p", q) ∷ []; fabrics = []; virtuals = [] }

-- a program has the policy under the name p, with all that the law asks of an accepted policy; so the tables carry it
pub record IsAcceptedThere : Type 0 where
  pub program : IsProgram dst_and_tag one_link ((codes "p", over_one_link) ∷ [])
  pub named : policy_named (program_with over_one_link) (codes "p") ≡ Some over_one_link
  pub accepted : IsAccepted (program_with over_one_link) over_one_link
  pub table : IsTableOf dst_and_tag one_link (IsStartPacket dst_and_tag one_link) over_one_link two_tables
  pub carries : Carries (program_with over_one_link) over_one_link two_tables

-- the packet that enters at port 1 of switch 1 with dst 3, and the history with which it leaves
abbrev pub entering_packet : List ℕ
entering_packet = packet 1 1 3 0

abbrev pub its_history : Copy
its_history = record { records = packet 1 2 3 0 ∷ packet 2 1 3 0 ∷ []; packet = packet 2 2 3 0 }

-- it leaves after one crossing, once, and neither before nor later; and this is the policy's one history from there
pub record LeavesAfterOneCrossing : Type 0 where
  pub start : IsStartPacket dst_and_tag one_link entering_packet
  pub not_at_once : left_after two_tables 0 entering_packet ≡ []
  pub then : left_after two_tables 1 entering_packet ≡ its_history ∷ []
  pub no_more : waiting two_tables 2 entering_packet ≡ []
  pub given : Gives over_one_link entering_packet its_history.records its_history.packet
  pub alone : (w : List (List ℕ)) (last : List ℕ) → Gives over_one_link entering_packet w last → record { records = w; packet = last } ≡ its_history

-- the tables' text
abbrev pub its_text : List ℕ
its_text =
    codes "tables 1\nfield dst 3\nfield vlan 7\ntag vlan\nswitch 1 ports 1,2\nswitch 2 ports 1,2\nlink 1:2 -> 2:1\n"
    ++ codes "table 1\nrow 2 : vlan=0 pt=1 -> [vlan:=1 out 2]\n"
    ++ codes "table 2\nrow 2 : vlan=1 pt=2 -> [vlan:=0 out in]\nrow 0 : vlan=1 -> [vlan:=0 out 2]\n"

-- they are in the order in which tables are printed, and this is what is printed
pub record ArePrintedSo : Type 0 where
  pub in_order : AreInOrder two_tables
  pub text : table_bytes two_tables ≡ its_text
