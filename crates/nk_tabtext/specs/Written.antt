-- A text of tables that is written row by row. Its first line tells whether some match is a prefix, which depends on all
-- tables: so it tells of those that are written so far.
use Rattle.std.specs.Prelude.{◌≡◌, ℕ, Bool, if◌then◌else◌, codes, List, ◌++◌, ◌||◌, length}
use Rattle.std.specs.Fmt.{decimal}
use Rattle.std.specs.List.{flat_map, list_any}
use Rattle.nk_field.specs.Packet.{FieldTable}
use Rattle.nk_topo.specs.Topology.{Topology}
use Rattle.nk_table.specs.declared.Row.{Row}
use Rattle.nk_table.specs.declared.Table.{Table}
use Rattle.nk_tabtext.specs.declared.writer.TableWriter.{TableWriter}
use Rattle.nk_tabtext.specs.Remembered.{RemembersSome}
use Rattle.nk_tabtext.specs.Text.{fields_text, group_text, have_prefix, row_text, tag_text, topology_text, version_text}

-- the lines before the tables
abbrev pub head_text : ℕ → FieldTable → Topology → List ℕ
head_text version fs topo = version_text version ++ fields_text fs ++ tag_text fs ++ topology_text topo

-- the first line of a switch's table
abbrev pub switch_line_text : ℕ → List ℕ
switch_line_text sw = codes "table " ++ decimal sw ++ codes "\n"

-- the groups and rows of a table
abbrev pub own_rules_text : FieldTable → Table → List ℕ
own_rules_text fs t = flat_map (group_text fs) t.groups ++ flat_map (row_text fs) t.rows

-- a table with its first line
abbrev pub own_section_text : FieldTable → Table → List ℕ
own_section_text fs t = switch_line_text t.switch ++ own_rules_text fs t

-- whether some match of some table is a prefix
abbrev pub some_prefix : FieldTable → List Table → Bool
some_prefix fs tables = list_any (λ t. have_prefix fs t.rows) tables

-- the number of the version: 2 where some match is a prefix
abbrev pub version_with : Bool → ℕ
version_with prefixes = if prefixes then 2 else 1

-- the writer has put these tables, in this order, after the lines of these fields and this topology
pub record HasWritten (fields : FieldTable) (topo : Topology) (tables : List Table) (w : TableWriter) : Type 0 where
  -- it prints by these fields
  pub same_fields : w.fields.now ≡ fields
  -- it knows whether some match so far is a prefix
  pub prefixes : w.prefixes ≡ some_prefix fields tables
  -- its text has the first lines, of the version that this asks for, and after them the tables
  pub text : w.text.items ≡ head_text (version_with w.prefixes) fields topo ++ flat_map (own_section_text fields) tables
  -- what it remembers of the last row is right
  pub last : RemembersSome fields w.last

-- the writer has put these tables after those lines, and of the table of one more switch its first line and these rows
pub record IsWriting (fields : FieldTable) (topo : Topology) (tables : List Table) (sw : ℕ) (rows : List Row) (w : TableWriter) : Type 0 where
  -- it prints by these fields
  pub same_fields : w.fields.now ≡ fields
  -- it knows whether some match so far is a prefix
  pub prefixes : w.prefixes ≡ (some_prefix fields tables || have_prefix fields rows)
  -- what stands before the rows
  pub front : List ℕ
  pub front_is : front ≡ head_text (version_with w.prefixes) fields topo ++ flat_map (own_section_text fields) tables ++ switch_line_text sw
  -- it knows where the rows begin
  pub start : w.start ≡ length front
  -- the rows stand at the end of its text
  pub text : w.text.items ≡ front ++ flat_map (row_text fields) rows
  -- what it remembers of the last row is right
  pub last : RemembersSome fields w.last
