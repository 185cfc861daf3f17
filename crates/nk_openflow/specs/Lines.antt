-- The lines of a switch's flows and groups, as ovs-ofctl(8), "Flow Syntax" and "Group Syntax", writes them.
use Rattle.std.specs.Prelude.{ℕ, ◌==◌, Bool, Option, Some, None, List, [], ◌∷◌, ◌++◌, slice_index, codes, decimal, if◌then◌else◌}
use Rattle.std.specs.List.{flat_map}
use Rattle.nk_field.specs.Packet.{FieldTable}
use Rattle.nk_prefix.specs.Prefix.{agrees_to, digits_of}
use Rattle.nk_table.specs.declared.Bucket.{Bucket}
use Rattle.nk_table.specs.declared.Group.{Group}
use Rattle.nk_table.specs.declared.Row.{Row}
use Rattle.nk_openflow.specs.declared.actions.VlanHeader.TheVariants.{Unknown}
use Rattle.nk_openflow.specs.declared.base.Base.{Base}
use Rattle.nk_openflow.specs.declared.mapping.Mapping.{Mapping}
use Rattle.nk_openflow.specs.Actions.{bucket_actions, header_of, target_actions}
use Rattle.nk_openflow.specs.Bases.{is_any, keyword_of}
use Rattle.nk_openflow.specs.Matches.{free_digits, flow_match_text}

-- ---- groups

-- Rows of all tags may name a group, so a bucket doesn't know whether there is a VLAN header.
unfoldable pub bucket_part : Mapping → Bucket → List ℕ
bucket_part mapping b = codes ",bucket=actions=" ++ bucket_actions mapping Unknown b

-- the line of a group: a group of type all runs each bucket on a copy of its own
abbrev pub group_line : Mapping → Group → List ℕ
group_line mapping g =
    codes "group_id=" ++ decimal g.number ++ codes ",type=all" ++ flat_map (bucket_part mapping) g.buckets ++ codes "\n"

-- ---- flows

-- the base with a comma after it
abbrev pub base_text : Base → List ℕ
base_text base = if is_any base then [] else keyword_of base ++ codes ","

-- the port with a comma after it, where a line is for one
abbrev pub port_text : Option ℕ → List ℕ
port_text None = []
port_text (Some p) = codes "in_port=" ++ decimal p ++ codes ","

-- the priority, the base and the port
abbrev pub flow_head : Base → ℕ → Option ℕ → List ℕ
flow_head base priority port =
    codes "priority=" ++ decimal priority ++ codes "," ++ base_text base ++ port_text port

-- the actions, and a line feed
abbrev pub flow_actions : FieldTable → Mapping → Row → List ℕ
flow_actions fs mapping r =
    codes "actions=" ++ target_actions mapping (header_of fs mapping r.matches) r.target ++ codes "\n"

-- a line of a row, for a port or for all
abbrev pub flow_line : FieldTable → Mapping → Row → Option ℕ → List ℕ
flow_line fs mapping r port =
    flow_head mapping.base r.priority port
    ++ flat_map (flow_match_text fs mapping) r.matches
    ++ flow_actions fs mapping r

-- the match of the port among matches
abbrev pub port_match : List (ℕ × ℕ × ℕ) → Option (ℕ × ℕ × ℕ)
port_match [] = None
port_match (m ∷ ms) = if m.0 == 1 then Some m else port_match ms

-- whether a port agrees with it
abbrev pub port_agrees : FieldTable → ℕ × ℕ × ℕ → ℕ → Bool
port_agrees fs m p = agrees_to m.1 m.2 (digits_of (slice_index fs.maxima m.0)) p

-- the line for a port, if it agrees
abbrev pub line_if_agrees : FieldTable → Mapping → Row → ℕ × ℕ × ℕ → ℕ → List ℕ
line_if_agrees fs mapping r m p = if port_agrees fs m p then flow_line fs mapping r (Some p) else []

-- The lines of a row by its match of the port: one for this port or for all; in_port can't be masked, so of a prefix there is
-- one for each port of the switch that agrees.
abbrev pub lines_by : FieldTable → Mapping → List ℕ → Row → Option (ℕ × ℕ × ℕ) → List ℕ
lines_by fs mapping ports r None = flow_line fs mapping r None
lines_by fs mapping ports r (Some m) =
    if free_digits fs m == 0 then flow_line fs mapping r (Some m.1) else flat_map (line_if_agrees fs mapping r m) ports

abbrev pub row_lines : FieldTable → Mapping → List ℕ → Row → List ℕ
row_lines fs mapping ports r = lines_by fs mapping ports r (port_match r.matches)
