-- Tables of the kind that a text describes: what is printed of them is read as them.
use Rattle.std.specs.Prelude.{◌≡◌, ◌==◌, ◌≤◌, ◌<◌, ℕ, ◌-◌, ◌%◌, ◌^◌, true, List, Ok, IsSome, All, AllPairs, length, map, slice_index, ⊤}
use Rattle.std.specs.List.{list_any}
use Rattle.nk_lex.specs.Lex.{largest}
use Rattle.nk_lex.specs.Spelling.{IsName}
use Rattle.nk_field.specs.Packet.{FieldTable, IsFieldTable, IsValue}
use Rattle.nk_field.specs.Act.{AscendsFrom}
use Rattle.nk_prefix.specs.Prefix.{digits_of}
use Rattle.nk_topo.specs.Topology.{IsTopology, numbers_of}
use Rattle.nk_table.specs.declared.Tables.{Tables}
use Rattle.nk_table.specs.declared.Table.{Table}
use Rattle.nk_table.specs.declared.Row.{Row}
use Rattle.nk_table.specs.declared.Group.{Group}
use Rattle.nk_table.specs.declared.Bucket.{Bucket}
use Rattle.nk_table.specs.declared.Target.{Target}
use Rattle.nk_table.specs.declared.Target.TheVariants as does
use Rattle.nk_table.specs.declared.Exit.{Exit}
use Rattle.nk_table.specs.declared.Exit.TheVariants as exit
use Rattle.nk_lex.specs.declared.token.Token.{Token}
use Rattle.nk_lex.specs.Lex.{tokens_of}
use Rattle.nk_tabtext.specs.InOrder.{MatchesAscend}
use Rattle.nk_tabtext.specs.Text.{table_bytes}
use Rattle.nk_tabtext.specs.Values.{tables_of}

-- an exit's port is one
abbrev pub IsExit : Exit → Type 0
IsExit exit.Back = ⊤
IsExit (exit.Port n) = n ≤ 65535

-- a bucket assigns declared fields, ascending, in range
pub record IsPrintableBucket (fields : FieldTable) (b : Bucket) : Type 0 where
  pub ascend : AscendsFrom 2 b.sets
  pub values : All (λ s. IsValue fields s.0 s.1) b.sets
  pub exit : IsExit b.exit

-- a group has a number that a text can write, at least 1, and a bucket
pub record IsPrintableGroup (fields : FieldTable) (g : Group) : Type 0 where
  pub low : 1 ≤ g.number
  pub high : g.number ≤ largest
  pub some : 1 ≤ length g.buckets
  pub buckets : All (IsPrintableBucket fields) g.buckets

-- a target's group is one of these
abbrev pub IsPrintableTarget : FieldTable → List Group → Target → Type 0
IsPrintableTarget fields groups (does.Bucket b) = IsPrintableBucket fields b
IsPrintableTarget fields groups (does.Group n) = list_any (λ g. g.number == n) groups ≡ true
IsPrintableTarget fields groups does.Discard = ⊤

-- a match has a value in its field's range of which one digit counts or more, up to all, and zeros after those
pub record IsPrintableMatch (fields : FieldTable) (m : ℕ × ℕ × ℕ) : Type 0 where
  pub value : IsValue fields m.0 m.1
  pub some : 1 ≤ m.2
  pub most : m.2 ≤ digits_of (slice_index fields.maxima m.0)
  pub zeros : m.1 % 2 ^ (digits_of (slice_index fields.maxima m.0) - m.2) ≡ 0

-- a row matches fields but the switch, ascending
pub record IsPrintableRow (fields : FieldTable) (groups : List Group) (r : Row) : Type 0 where
  pub priority : r.priority ≤ 65535
  pub ascend : MatchesAscend 1 r.matches
  pub matches : All (IsPrintableMatch fields) r.matches
  pub target : IsPrintableTarget fields groups r.target

-- a table's groups ascend by number
pub record IsPrintableTable (fields : FieldTable) (t : Table) : Type 0 where
  pub groups : All (IsPrintableGroup fields) t.groups
  pub ascend : AllPairs (λ g h. g.number < h.number) t.groups
  pub rows : All (IsPrintableRow fields t.groups) t.rows

-- Fields, names and largest values that a text can declare, a tag; a topology of such numbers, each switch with a port; and
-- the table of each switch, in order.
pub record ArePrintableTables (t : Tables) : Type 0 where
  pub fields : IsFieldTable t.fields
  pub maxima : All (λ m. m ≤ largest) t.fields.maxima
  pub names : All IsName t.fields.names
  pub tag : IsSome t.fields.tag
  pub topology : IsTopology t.topo
  pub switches : All (λ s. s.switch ≤ 65535) t.topo.switches
  pub ports : All (λ s. All (λ p. p ≤ 65535) s.ports) t.topo.switches
  pub some : All (λ s. 1 ≤ length s.ports) t.topo.switches
  pub each : map (λ u. u.switch) t.tables ≡ numbers_of t.topo
  pub tables : All (IsPrintableTable t.fields) t.tables

-- the printed text is cut into tokens, and read as the tables
pub record AreReadBack (t : Tables) : Type 0 where
  pub tokens : List Token
  pub cut : tokens_of (table_bytes t) ≡ Ok tokens
  pub read : tables_of (table_bytes t) ≡ Ok t

-- what is printed of such tables is read as them
abbrev pub ReadsPrintedTables : Type 0
ReadsPrintedTables = (t : Tables) → ArePrintableTables t → AreReadBack t

-- what is read of any text is such tables
abbrev pub AnswersPrintable : Type 0
AnswersPrintable = (text : List ℕ) (t : Tables) → tables_of text ≡ Ok t → ArePrintableTables t
