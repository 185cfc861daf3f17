-- The actions of flows and of the buckets of groups, as ovs-actions(7) writes them.
use Rattle.std.specs.Prelude.{ℕ, ◌/◌, ◌^◌, ◌==◌, Bool, Option, Some, None, List, [], ◌∷◌, ◌++◌, codes, decimal, if◌then◌else◌}
use Rattle.std.specs.List.{flat_map}
use Rattle.nk_field.specs.Packet.{FieldTable}
use Rattle.nk_table.specs.declared.Bucket.{Bucket}
use Rattle.nk_table.specs.declared.Exit.{Exit}
use Rattle.nk_table.specs.declared.Exit.TheVariants.{Back, Port}
use Rattle.nk_table.specs.declared.Target.{Target}
use Rattle.nk_table.specs.declared.Target.TheVariants as target
use Rattle.nk_openflow.specs.declared.actions.VlanHeader.{VlanHeader}
use Rattle.nk_openflow.specs.declared.actions.VlanHeader.TheVariants.{Absent, Present, Unknown}
use Rattle.nk_openflow.specs.declared.base.Base.{Base}
use Rattle.nk_openflow.specs.declared.mapping.Mapping.{Mapping}
use Rattle.nk_openflow.specs.declared.match_field.MatchField.{MatchField}
use Rattle.nk_openflow.specs.declared.match_field.MatchField.TheVariants.{VlanVid}
use Rattle.nk_openflow.specs.Mapping.{is_vlan, mapped_at}
use Rattle.nk_openflow.specs.Matches.{free_digits, name_text}
use Rattle.nk_openflow.specs.Values.{value_text}

-- ---- what a row's matches tell of the VLAN header

-- whether the values with the first digits of this one, but for so many of the last, have 0 among them
abbrev pub has_zero : (value free : ℕ) → Bool
has_zero value free = value / 2 ^ free == 0

-- tag 0 is no header, and each other tag is one
abbrev pub header_by : (value free : ℕ) → VlanHeader
header_by value free = if has_zero value free then (if free == 0 then Absent else Unknown) else Present

-- what a match tells, by the match field of its field
abbrev pub header_at : FieldTable → Option MatchField → ℕ × ℕ × ℕ → VlanHeader → VlanHeader
header_at fs None m rest = rest
header_at fs (Some f) m rest = if is_vlan f then header_by m.1 (free_digits fs m) else rest

abbrev pub header_of : FieldTable → Mapping → List (ℕ × ℕ × ℕ) → VlanHeader
header_of fs mapping [] = Unknown
header_of fs mapping (m ∷ ms) = header_at fs (mapped_at mapping.fields m.0) m (header_of fs mapping ms)

-- ---- what a bucket does

-- "set_field"
abbrev pub field_set_text : Base → MatchField → ℕ → List ℕ
field_set_text base f n = codes "set_field:" ++ value_text f n ++ codes "->" ++ name_text base f ++ codes ","

-- The VLAN header of a tag where there is none yet: "push_vlan", with the type of a customer's VLAN, and then the tag. Tag 0 has
-- no header.
abbrev pub new_header_text : Base → ℕ → List ℕ
new_header_text base n = if n == 0 then [] else codes "push_vlan:0x8100," ++ field_set_text base VlanVid n

-- The VLAN header of a tag, where there is none yet, where there is one, and where this isn't known: "pop_vlan" removes the
-- VLAN header, if any.
abbrev pub vlan_set_text : Base → VlanHeader → ℕ → List ℕ
vlan_set_text base Absent n = new_header_text base n
vlan_set_text base Present n = if n == 0 then codes "pop_vlan," else field_set_text base VlanVid n
vlan_set_text base Unknown n = codes "pop_vlan," ++ new_header_text base n

-- an assignment by the match field of its field
abbrev pub set_if_any : Base → VlanHeader → Option MatchField → ℕ → List ℕ
set_if_any base header None n = []
set_if_any base header (Some f) n = if is_vlan f then vlan_set_text base header n else field_set_text base f n

abbrev pub set_actions : Mapping → VlanHeader → ℕ × ℕ → List ℕ
set_actions mapping header s = set_if_any mapping.base header (mapped_at mapping.fields s.0) s.1

-- "in_port" sends a packet back where it came in; "output" sends nothing there
abbrev pub exit_action : Exit → List ℕ
exit_action Back = codes "in_port"
exit_action (Port n) = codes "output:" ++ decimal n

-- the assignments, then the exit
abbrev pub bucket_actions : Mapping → VlanHeader → Bucket → List ℕ
bucket_actions mapping header b = flat_map (set_actions mapping header) b.sets ++ exit_action b.exit

-- what a row does
abbrev pub target_actions : Mapping → VlanHeader → Target → List ℕ
target_actions mapping header (target.Bucket b) = bucket_actions mapping header b
target_actions mapping header (target.Group n) = codes "group:" ++ decimal n
target_actions mapping header target.Discard = codes "drop"
