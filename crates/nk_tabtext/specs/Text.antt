-- The printed form of tables, as bytes. Its lines: `tables 2` where some match is a prefix, else `tables 1`; the declared
-- fields with their largest values; the tag; the switches with their ports; the links; and for each switch its table, that
-- is its groups and its rows. What stands in order in the tables, as they are read, stands so in the text: switches, ports,
-- links, groups, matches by field.
use Rattle.std.specs.Prelude.{◌≡◌, ℕ, ◌≤◌, ◌==◌, not, Bool, true, false, if◌then◌else◌, codes, Option, Some, None, List, [], ◌∷◌, ◌++◌, drop, slice_index}
use Rattle.std.specs.Fmt.{decimal}
use Rattle.std.specs.List.{flat_map, list_any}
use Rattle.nk_field.specs.Packet.{FieldTable}
pub use Rattle.nk_field.specs.Texts.{name_of, is_this, is_tag}
use Rattle.nk_prefix.specs.Prefix.{digits_of}
use Rattle.nk_topo.specs.Topology.{Topology, SwitchPorts, Link}
use Rattle.nk_table.specs.declared.Tables.{Tables}
use Rattle.nk_table.specs.declared.Table.{Table}
use Rattle.nk_table.specs.declared.Row.{Row}
use Rattle.nk_table.specs.declared.Group.{Group}
use Rattle.nk_table.specs.declared.Bucket.{Bucket}
use Rattle.nk_table.specs.declared.Target.{Target}
use Rattle.nk_table.specs.declared.Target.TheVariants as target
use Rattle.nk_table.specs.declared.Exit.{Exit}
use Rattle.nk_table.specs.declared.Exit.TheVariants.{Back, Port}
use Rattle.nk_table.specs.Rules.{rows_of, groups_at_switch}

-- the line of a declared field
abbrev pub field_text : List ℕ → ℕ → List ℕ
field_text name max = codes "field " ++ name ++ codes " " ++ decimal max ++ codes "\n"

-- the lines of fields with these names and largest values
abbrev pub table_field_lines : List (List ℕ) → List ℕ → List ℕ
table_field_lines [] maxima = []
table_field_lines (name ∷ names) [] = []
table_field_lines (name ∷ names) (max ∷ maxima) = field_text name max ++ table_field_lines names maxima

-- the lines of the declared fields: those after the switch and the port
abbrev pub fields_text : FieldTable → List ℕ
fields_text fs = table_field_lines (drop 2 fs.names) (drop 2 fs.maxima)

-- the line of the tag, if there is one
abbrev pub tag_line : FieldTable → Option ℕ → List ℕ
tag_line fs None = []
tag_line fs (Some f) = codes "tag " ++ name_of fs f ++ codes "\n"

abbrev pub tag_text : FieldTable → List ℕ
tag_text fs = tag_line fs fs.tag

-- ports with commas between them
abbrev pub ports_text : List ℕ → List ℕ
ports_text [] = []
ports_text (p ∷ ps) = decimal p ++ flat_map (λ q. codes "," ++ decimal q) ps

-- the line of a switch
abbrev pub switch_text : SwitchPorts → List ℕ
switch_text s = codes "switch " ++ decimal s.switch ++ codes " ports " ++ ports_text s.ports ++ codes "\n"

-- the line of a link
abbrev pub link_text : Link → List ℕ
link_text l =
    codes "link "
    ++ decimal l.from_switch
    ++ codes ":"
    ++ decimal l.from_port
    ++ codes " -> "
    ++ decimal l.to_switch
    ++ codes ":"
    ++ decimal l.to_port
    ++ codes "\n"

-- the lines of the switches, then those of the links
abbrev pub topology_text : Topology → List ℕ
topology_text t = flat_map switch_text t.switches ++ flat_map link_text t.links

-- all digits of the field count in a match
abbrev pub is_exact : FieldTable → ℕ × ℕ × ℕ → Bool
is_exact fs m = m.2 == digits_of (slice_index fs.maxima m.0)

-- how many digits of its value count, unless all do
abbrev pub length_text : FieldTable → ℕ × ℕ × ℕ → List ℕ
length_text fs m = if is_exact fs m then [] else codes "/" ++ decimal m.2

-- one match, with a space after it
abbrev pub match_text : FieldTable → ℕ × ℕ × ℕ → List ℕ
match_text fs m = name_of fs m.0 ++ codes "=" ++ decimal m.1 ++ length_text fs m ++ codes " "

-- one assignment, with a space after it
abbrev pub set_text : FieldTable → ℕ × ℕ → List ℕ
set_text fs a = name_of fs a.0 ++ codes ":=" ++ decimal a.1 ++ codes " "

-- a part of the text where two flags agree, else nothing
abbrev pub where_same : Bool → Bool → List ℕ → List ℕ
where_same true true text = text
where_same true false text = []
where_same false true text = []
where_same false false text = text

-- the matches of the tag, or the other ones
abbrev pub matches_text : FieldTable → Bool → List (ℕ × ℕ × ℕ) → List ℕ
matches_text fs tag ms = flat_map (λ m. where_same (is_tag fs m.0) tag (match_text fs m)) ms

-- the assignments of the tag, or the other ones
abbrev pub sets_text : FieldTable → Bool → List (ℕ × ℕ) → List ℕ
sets_text fs tag sets = flat_map (λ a. where_same (is_tag fs a.0) tag (set_text fs a)) sets

-- where a bucket sends a packet
abbrev pub exit_text : Exit → List ℕ
exit_text Back = codes "out in"
exit_text (Port n) = codes "out " ++ decimal n

-- a bucket: the declared fields in order, the tag last, then the exit
abbrev pub bucket_text : FieldTable → Bucket → List ℕ
bucket_text fs b =
    codes "[" ++ sets_text fs false b.sets ++ sets_text fs true b.sets ++ exit_text b.exit ++ codes "]"

-- what a row does
abbrev pub target_text : FieldTable → Target → List ℕ
target_text fs (target.Bucket b) = bucket_text fs b
target_text fs (target.Group n) = codes "group " ++ decimal n
target_text fs target.Discard = codes "drop"

-- the line of a row: the tag first, then the port, then the declared fields in order
abbrev pub row_text : FieldTable → Row → List ℕ
row_text fs r =
    codes "row "
    ++ decimal r.priority
    ++ codes " : "
    ++ matches_text fs true r.matches
    ++ matches_text fs false r.matches
    ++ codes "-> "
    ++ target_text fs r.target
    ++ codes "\n"

-- the line of a group
abbrev pub group_text : FieldTable → Group → List ℕ
group_text fs g =
    codes "group "
    ++ decimal g.number
    ++ codes " ="
    ++ flat_map (λ b. codes " " ++ bucket_text fs b) g.buckets
    ++ codes "\n"

-- the groups and rows of a switch
abbrev pub rules_text : FieldTable → List Table → ℕ → List ℕ
rules_text fs tables sw = flat_map (group_text fs) (groups_at_switch tables sw) ++ flat_map (row_text fs) (rows_of tables sw)

-- the table of a switch; one that has none among the tables has an empty one
abbrev pub section_text : FieldTable → List Table → ℕ → List ℕ
section_text fs tables sw = codes "table " ++ decimal sw ++ codes "\n" ++ rules_text fs tables sw

-- in the second tables each switch from that one on has the groups and rows that it has in the first
abbrev pub AreTablesFrom : ℕ → List Table → List Table → Type 0
AreTablesFrom sw all rest = (n : ℕ) → sw ≤ n → (rows_of rest n ≡ rows_of all n) × (groups_at_switch rest n ≡ groups_at_switch all n)

-- whether some match of these rows is a prefix
abbrev pub have_prefix : FieldTable → List Row → Bool
have_prefix fs rows = list_any (λ r. list_any (λ m. not (is_exact fs m)) r.matches) rows

-- the number after the word `tables`: 2 where some match of a switch's rows is a prefix
abbrev pub version_of : Tables → ℕ
version_of t = if list_any (λ s. have_prefix t.fields (rows_of t.tables s.switch)) t.topo.switches then 2 else 1

-- the line of this version
abbrev pub version_text : ℕ → List ℕ
version_text n = codes "tables " ++ decimal n ++ codes "\n"

-- the bytes of the tables' text
abbrev pub table_bytes : Tables → List ℕ
table_bytes t =
    version_text (version_of t)
    ++ fields_text t.fields
    ++ tag_text t.fields
    ++ topology_text t.topo
    ++ flat_map (λ s. section_text t.fields t.tables s.switch) t.topo.switches
