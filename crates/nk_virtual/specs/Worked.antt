-- A small virtual policy, worked out by hand: one virtual link from port 1 of switch 1 to port 1 of switch 3, over a fabric
-- that goes by switch 2.
use Rattle.std.specs.Prelude.{ℕ, Some, List, [], ◌∷◌, codes, replicate}
use Rattle.nk_field.specs.declared.history.History.{History}
use Rattle.nk_field.specs.declared.packet.Packet.{Packet}
use Rattle.nk_field.specs.Packet.{FieldTable, IsFieldTable, IsPacket, IsUntagged, built_in, with_field}
use Rattle.nk_policy.specs.Policy.{Policy, assign, seq_of, link, no_part, part}
use Rattle.nk_policy.specs.Meaning.{Gives}
use Rattle.nk_policy.specs.Worked.{packet, ending}
use Rattle.nk_names.specs.ProgramValue.{VirtualLink}
use Rattle.nk_virtual.specs.Fabrics.{IsVirtual}

-- pt:=2;1:2=>2:1;pt:=2;2:2=>3:1
abbrev pub by_switch_two : Policy
by_switch_two = seq_of (part (assign 1 2) (part (link 1 2 2 1 1) (part (assign 1 2) (part (link 2 2 3 1 3) no_part))))

-- the virtual link
abbrev pub one_to_three : VirtualLink
one_to_three = record {
  ends = record { from_switch = 1; from_port = 1; to_switch = 3; to_port = 1 };
  fabric = by_switch_two;
}

-- 1:1=>3:1;pt:=2
abbrev pub across_virtual : Policy
across_virtual = seq_of (part (link 1 1 3 1 1) (part (assign 1 2) no_part))

-- its history: over the virtual link
abbrev pub virtual_history : List History
virtual_history = ending (packet 1 1 3 ∷ packet 3 1 3 ∷ []) (packet 3 2 3) ∷ []

-- the physical one: over two links
abbrev pub physical_history : List History
physical_history = ending (packet 1 2 3 ∷ packet 2 1 3 ∷ packet 2 2 3 ∷ packet 3 1 3 ∷ []) (packet 3 2 3) ∷ []

-- the switch, the port, dst with values 0 to 3, and the tag vlan with values 0 to 7
abbrev pub dst_and_vlan : FieldTable
dst_and_vlan = record (with_field (with_field built_in (codes "dst") 3) (codes "vlan") 7) { tag = Some 3 }

-- a packet with dst 3 and tag 0
abbrev pub untagged : ℕ → ℕ → Packet
untagged sw pt = sw ∷ pt ∷ 3 ∷ 0 ∷ replicate 14 0

-- all that the laws ask of fields, virtual links, a policy over them, a packet and a history
pub record HasAllThatIsAsked : Type 0 where
  pub fields : IsFieldTable dst_and_vlan
  pub over_fabric : IsVirtual dst_and_vlan (one_to_three ∷ []) across_virtual
  pub packet : IsPacket dst_and_vlan (untagged 1 1)
  pub without_tag : IsUntagged dst_and_vlan (untagged 1 1)
  pub given : Gives across_virtual (untagged 1 1) (untagged 1 1 ∷ untagged 3 1 ∷ []) (untagged 3 2)
