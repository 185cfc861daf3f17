-- What of a switch's table can't be written for Open vSwitch, and which of it comes first.
use Rattle.std.specs.Prelude.{ℕ, ◌+◌, ◌==◌, ◌&&◌, ◌||◌, not, nat_lt, Bool, true, false, Option, Some, None, List, [], ◌∷◌, if◌then◌else◌}
use Rattle.nk_field.specs.Packet.{FieldTable}
use Rattle.nk_lex.specs.Faults.{first_of}
use Rattle.nk_table.specs.declared.Bucket.{Bucket}
use Rattle.nk_table.specs.declared.Exit.{Exit}
use Rattle.nk_table.specs.declared.Exit.TheVariants as exit
use Rattle.nk_table.specs.declared.Group.{Group}
use Rattle.nk_table.specs.declared.Row.{Row}
use Rattle.nk_table.specs.declared.Target.{Target}
use Rattle.nk_table.specs.declared.Target.TheVariants as target
use Rattle.nk_openflow.specs.declared.actions.VlanHeader.{VlanHeader}
use Rattle.nk_openflow.specs.declared.actions.VlanHeader.TheVariants.{Absent, Present, Unknown}
use Rattle.nk_openflow.specs.declared.mapping.Mapping.{Mapping}
use Rattle.nk_openflow.specs.declared.match_field.MatchField.{MatchField}
use Rattle.nk_openflow.specs.declared.refusals.Place.{Place}
use Rattle.nk_openflow.specs.declared.refusals.Place.TheVariants as place
use Rattle.nk_openflow.specs.declared.refusals.RuleFault.{RuleFault}
use Rattle.nk_openflow.specs.declared.refusals.RuleFault.TheVariants.{NotMapped, NotMaskable, NotWritable, TagPrefix, TagUnmatched, Port, GroupNumber}
use Rattle.nk_openflow.specs.Actions.{has_zero, header_of}
use Rattle.nk_openflow.specs.Mapping.{is_vlan, mapped_at}
use Rattle.nk_openflow.specs.MatchFields.{is_maskable, is_writable}
use Rattle.nk_openflow.specs.Matches.{free_digits}

-- a port has a number from 1 to 65279, and the numbers above are kept for OpenFlow (ovs-fields(7), "Ingress Port")
abbrev pub port_number_fault : ℕ → Option RuleFault
port_number_fault n = if (n == 0) || nat_lt 65279 n then Some (Port n) else None

abbrev pub port_numbers_fault : List ℕ → Option RuleFault
port_numbers_fault [] = None
port_numbers_fault (p ∷ ps) = first_of (port_number_fault p) (port_numbers_fault ps)

-- ---- matches

-- A prefix needs a mask. No match has both the packets without a VLAN header and those of some VLANs.
abbrev pub field_match_fault : ℕ → MatchField → (value free : ℕ) → Option RuleFault
field_match_fault f field value free =
    if free == 0 then None
    else if not (is_maskable field) then Some (NotMaskable f)
    else if is_vlan field && has_zero value free then Some TagPrefix
    else None

abbrev pub mapped_match_fault : FieldTable → Option MatchField → ℕ × ℕ × ℕ → Option RuleFault
mapped_match_fault fs None m = Some (NotMapped m.0)
mapped_match_fault fs (Some field) m = field_match_fault m.0 field m.1 (free_digits fs m)

-- of the port an exact number is one of a port; of the other fields each is mapped
abbrev pub match_rule_fault : FieldTable → Mapping → ℕ × ℕ × ℕ → Option RuleFault
match_rule_fault fs mapping m =
    if m.0 == 1 then (if free_digits fs m == 0 then port_number_fault m.1 else None)
    else mapped_match_fault fs (mapped_at mapping.fields m.0) m

abbrev pub matches_fault : FieldTable → Mapping → List (ℕ × ℕ × ℕ) → Option RuleFault
matches_fault fs mapping [] = None
matches_fault fs mapping (m ∷ ms) = first_of (match_rule_fault fs mapping m) (matches_fault fs mapping ms)

-- ---- what is done

-- The match field can be set. The tag is set only where it is known whether there is a VLAN header, or where that doesn't
-- matter.
abbrev pub field_set_fault : Bool → ℕ → Option MatchField → Option RuleFault
field_set_fault is_known f None = Some (NotMapped f)
field_set_fault is_known f (Some field) =
    if not (is_writable field) then Some (NotWritable f)
    else if is_vlan field && not is_known then Some TagUnmatched
    else None

abbrev pub set_fault : Mapping → Bool → ℕ → Option RuleFault
set_fault mapping is_known f = field_set_fault is_known f (mapped_at mapping.fields f)

abbrev pub sets_fault : Mapping → Bool → List (ℕ × ℕ) → Option RuleFault
sets_fault mapping is_known [] = None
sets_fault mapping is_known (s ∷ ss) = first_of (set_fault mapping is_known s.0) (sets_fault mapping is_known ss)

abbrev pub exit_fault : Exit → Option RuleFault
exit_fault exit.Back = None
exit_fault (exit.Port n) = port_number_fault n

abbrev pub bucket_fault : Mapping → Bool → Bucket → Option RuleFault
bucket_fault mapping is_known b = first_of (sets_fault mapping is_known b.sets) (exit_fault b.exit)

abbrev pub buckets_fault : Mapping → List Bucket → Option RuleFault
buckets_fault mapping [] = None
buckets_fault mapping (b ∷ bs) = first_of (bucket_fault mapping true b) (buckets_fault mapping bs)

-- whether a row's matches tell of the VLAN header
abbrev pub is_told : VlanHeader → Bool
is_told Absent = true
is_told Present = true
is_told Unknown = false

abbrev pub target_fault : Mapping → Bool → Target → Option RuleFault
target_fault mapping is_known (target.Bucket b) = bucket_fault mapping is_known b
target_fault mapping is_known (target.Group n) = None
target_fault mapping is_known target.Discard = None

-- ---- rows and groups

abbrev pub row_fault : FieldTable → Mapping → Row → Option RuleFault
row_fault fs mapping r =
    first_of (matches_fault fs mapping r.matches) (target_fault mapping (is_told (header_of fs mapping r.matches)) r.target)

-- the number of a group is at most 0xffffff00 (OpenFlow 1.3, OFPG_MAX)
abbrev pub group_rule_fault : Mapping → Group → Option RuleFault
group_rule_fault mapping g = if nat_lt 4294967040 g.number then Some GroupNumber else buckets_fault mapping g.buckets

-- a fault with its place
abbrev pub at : Place → Option RuleFault → Option (Place × RuleFault)
at p None = None
at p (Some k) = Some (p, k)

abbrev pub groups_fault : Mapping → List Group → Option (Place × RuleFault)
groups_fault mapping [] = None
groups_fault mapping (g ∷ gs) = first_of (at (place.Group g.number) (group_rule_fault mapping g)) (groups_fault mapping gs)

-- the first of these rows is number n
abbrev pub row_rules_fault : FieldTable → Mapping → ℕ → List Row → Option (Place × RuleFault)
row_rules_fault fs mapping n [] = None
row_rules_fault fs mapping n (r ∷ rs) = first_of (at (place.Row n) (row_fault fs mapping r)) (row_rules_fault fs mapping (n + 1) rs)

-- the first fault of the ports, else of the groups, else of the rows
abbrev pub first_rule_fault : FieldTable → Mapping → List ℕ → List Group → List Row → Option (Place × RuleFault)
first_rule_fault fs mapping ports groups rows =
    first_of (at place.Ports (port_numbers_fault ports)) (first_of (groups_fault mapping groups) (row_rules_fault fs mapping 1 rows))
