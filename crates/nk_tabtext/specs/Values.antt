-- The tables that a text writes, or the line of its first fault. Fields, switches and links are declared first; then come
-- the tables of switches, with groups by number, matches and assignments by field, rows and buckets as they are written. A
-- match may be a prefix: how many of the value's binary digits count, from the highest on.
use Rattle.std.specs.Prelude.{ℕ, ◌-◌, ◌%◌, ◌^◌, ◌==◌, ◌||◌, not, nat_lt, Bool, Option, Some, None, Ok, Err, is_some, is_none, if◌then◌else◌, unwrap_or, map, List, [], ◌∷◌, ◌++◌, length}
use Rattle.std.specs.declared.result.Result.{Result}
use Rattle.std.specs.List.{list_any}
use Rattle.std.specs.Map.{lookup}
use Rattle.std.specs.Ordering.{nat_cmp}
use Rattle.std.specs.BTreeMap.{insert_entry, is_at}
use Rattle.nk_lex.specs.declared.token.LexError.{LexError}
use Rattle.nk_lex.specs.declared.token.Token.{Token}
use Rattle.nk_lex.specs.declared.token.LexError.TheVariants as lexical
use Rattle.nk_lex.specs.Lex.{tokens_of}
use Rattle.nk_lex.specs.Spans.{last_line}
use Rattle.nk_field.specs.Packet.{FieldTable, field_named}
use Rattle.nk_field.specs.Act.{act_then}
use Rattle.nk_prefix.specs.Prefix.{digits_of}
use Rattle.nk_topo.specs.Topology.{Topology, placed, numbers_of, is_switch}
use Rattle.nk_table.specs.declared.Tables.{Tables}
use Rattle.nk_table.specs.declared.Table.{Table}
use Rattle.nk_table.specs.declared.Row.{Row}
use Rattle.nk_table.specs.declared.Group.{Group}
use Rattle.nk_table.specs.declared.Bucket.{Bucket}
use Rattle.nk_table.specs.declared.Target.{Target}
use Rattle.nk_table.specs.declared.Target.TheVariants as does
use Rattle.nk_table.specs.declared.Exit.{Exit}
use Rattle.nk_table.specs.declared.Exit.TheVariants as exit
use Rattle.nk_lex.specs.declared.ident.Ident.{Ident}
use Rattle.nk_lex.specs.declared.ident.Number.{Number}
use Rattle.nk_lex.specs.Faults.{and_then, first_of}
use Rattle.nk_tabgrammar.specs.declared.written.Pair.{Pair}
use Rattle.nk_tabgrammar.specs.declared.written.WrittenMatch.{WrittenMatch}
use Rattle.nk_tabgrammar.specs.declared.written.Declaration.{Declaration}
use Rattle.nk_tabgrammar.specs.declared.written.Declaration.TheVariants as declared
use Rattle.nk_tabgrammar.specs.declared.written.Way.{Way}
use Rattle.nk_tabgrammar.specs.declared.written.Way.TheVariants as way
use Rattle.nk_tabgrammar.specs.declared.written.WrittenBucket.{WrittenBucket}
use Rattle.nk_tabgrammar.specs.declared.written.WrittenTarget.{WrittenTarget}
use Rattle.nk_tabgrammar.specs.declared.written.WrittenTarget.TheVariants as target
use Rattle.nk_tabgrammar.specs.declared.written.WrittenRow.{WrittenRow}
use Rattle.nk_tabgrammar.specs.declared.written.WrittenGroup.{WrittenGroup}
use Rattle.nk_tabgrammar.specs.declared.written.WrittenTable.{WrittenTable}
use Rattle.nk_tabgrammar.specs.declared.written.WrittenTables.{WrittenTables}
use Rattle.nk_tabgrammar.specs.declared.written.ReadError.{ReadError}
use Rattle.nk_tabgrammar.specs.declared.written.ReadError.TheVariants as error
use Rattle.nk_declare.specs.declared.fault.DeclareError.{DeclareError}
use Rattle.nk_declare.specs.declared.fault.DeclareError.TheVariants as refused
use Rattle.nk_declare.specs.Declarations.{DeclaredValue, nothing_declared, declared_after, is_from, place_of_field, most_in}
use Rattle.nk_declare.specs.Declarations as declare
use Rattle.nk_tabgrammar.specs.Machine.{written_of}

-- the line of a fault, or none
abbrev pub FaultLine : Type 0
FaultLine = Option ℕ

-- a fault on this line, where something is wrong
abbrev pub line_if : Bool → ℕ → FaultLine
line_if wrong line = if wrong then Some line else None

-- a number above a bound
abbrev pub line_above : ℕ → Number → FaultLine
line_above most n = line_if (nat_lt most n.value) n.line

-- the value, unless there is a fault
abbrev pub unless_at : {X : Type 0} → FaultLine → X → Result X ReadError
unless_at None x = Ok x
unless_at (Some line) x = Err (error.TableFault line)

-- the rest, unless there is a fault
abbrev pub checked : {X : Type 0} → FaultLine → Result X ReadError → Result X ReadError
checked None rest = rest
checked (Some line) rest = Err (error.TableFault line)

-- ---- declarations

-- a declaration as any text has it
abbrev pub plain_declaration : Declaration → declare.NetworkDeclaration
plain_declaration (declared.Field w n) = declare.field w n
plain_declaration (declared.Tag w) = declare.tag w
plain_declaration (declared.Switch n p ps) = declare.switch n (p ∷ ps)
plain_declaration (declared.Link a m b n) = declare.link a m b n

-- the fault of a declaration, at its line
abbrev pub fault_of : DeclareError → ReadError
fault_of refused.NoMemory = error.NoMemory
fault_of (refused.Fault k line) = error.TableFault line

-- what is declared, or that fault
abbrev pub read_of : Result DeclaredValue DeclareError → Result DeclaredValue ReadError
read_of (Ok d) = Ok d
read_of (Err e) = Err (fault_of e)

-- what is declared after these declarations
abbrev pub said_after : List Declaration → DeclaredValue → Result DeclaredValue ReadError
said_after ds s = read_of (declared_after (map plain_declaration ds) s)

-- ---- the tables of switches

-- a field with a value: its name is that of a field from `low` on which is not taken, and the value is in its range
abbrev pub value_fault : FieldTable → (low : ℕ) → (taken : Bool) → Ident → Number → FaultLine
value_fault fields low taken w n =
    first_of
    (first_of
    (line_if (not (is_from low (field_named fields w.text))) w.line)
    (line_if taken w.line))
    (line_above (most_in fields w) n)

-- an assignment after others: its field, from `low` on, has none of them
abbrev pub pair_fault : FieldTable → (low : ℕ) → List (ℕ × ℕ) → Pair → FaultLine
pair_fault fields low before p =
    value_fault fields low (list_any (λ s. s.0 == place_of_field fields p.name) before) p.name p.number

-- the field and the value
abbrev pub pair_read : FieldTable → (low : ℕ) → List (ℕ × ℕ) → Pair → Result (ℕ × ℕ) ReadError
pair_read fields low before p = unless_at (pair_fault fields low before p) (place_of_field fields p.name, p.number.value)

-- all of them, by field
abbrev pub pairs_read : FieldTable → (low : ℕ) → List (ℕ × ℕ) → List Pair → Result (List (ℕ × ℕ)) ReadError
pairs_read fields low before [] = Ok before
pairs_read fields low before (p ∷ ps) =
    and_then (pair_read fields low before p) (λ s. pairs_read fields low (act_then before (s ∷ [])) ps)

-- how many binary digits a field's largest value has
abbrev pub digits_in : FieldTable → Ident → ℕ
digits_in fields w = digits_of (most_in fields w)

-- how many of so many digits count: as many as are written, else all
abbrev pub length_in : (digits : ℕ) → Option Number → ℕ
length_in digits None = digits
length_in digits (Some l) = l.value

-- a length is written in a text of version 2 alone, and at least one digit counts, at most all
abbrev pub length_fault : (version digits : ℕ) → Option Number → FaultLine
length_fault version digits None = None
length_fault version digits (Some l) =
    line_if (not (version == 2) || ((l.value == 0) || nat_lt digits l.value)) l.line

-- after the digits that count a value has zeros
abbrev pub ones_fault : (digits length : ℕ) → Number → FaultLine
ones_fault digits length n = line_if (not (n.value % 2 ^ (digits - length) == 0)) n.line

-- a match after others: its field, but the switch, has none of them; last it is looked at its digits
abbrev pub match_fault : (version : ℕ) → FieldTable → List (ℕ × ℕ × ℕ) → WrittenMatch → FaultLine
match_fault version fields before m =
    let digits = digits_in fields m.name in
    first_of
    (value_fault fields 1 (list_any (λ s. s.0 == place_of_field fields m.name) before) m.name m.number)
    (first_of (length_fault version digits m.length) (ones_fault digits (length_in digits m.length) m.number))

-- the field, the value and how many of its digits count
abbrev pub match_read : (version : ℕ) → FieldTable → List (ℕ × ℕ × ℕ) → WrittenMatch → Result (ℕ × ℕ × ℕ) ReadError
match_read version fields before m =
    unless_at (match_fault version fields before m)
    (place_of_field fields m.name, m.number.value, length_in (digits_in fields m.name) m.length)

-- a match put after those of lower fields
abbrev pub placed_match : ℕ × ℕ × ℕ → List (ℕ × ℕ × ℕ) → List (ℕ × ℕ × ℕ)
placed_match m before = placed (λ x. nat_lt x.0 m.0) m before

-- all of them, by field
abbrev pub matches_read : (version : ℕ) → FieldTable → List (ℕ × ℕ × ℕ) → List WrittenMatch → Result (List (ℕ × ℕ × ℕ)) ReadError
matches_read version fields before [] = Ok before
matches_read version fields before (m ∷ ms) =
    and_then (match_read version fields before m) (λ s. matches_read version fields (placed_match s before) ms)

-- an exit: its number is a port's
abbrev pub way_read : Way → Result Exit ReadError
way_read way.Back = Ok exit.Back
way_read (way.Port n) = unless_at (line_above 65535 n) (exit.Port n.value)

-- a bucket by its parts
abbrev pub bucket_with : List (ℕ × ℕ) → Exit → Bucket
bucket_with sets e = record { sets = sets; exit = e }

-- a bucket: it assigns declared fields
abbrev pub bucket_read : FieldTable → WrittenBucket → Result Bucket ReadError
bucket_read fields b =
    and_then (pairs_read fields 2 [] b.sets) (λ sets. and_then (way_read b.way) (λ e. Ok (bucket_with sets e)))

-- buckets after others
abbrev pub buckets_read : FieldTable → List Bucket → List WrittenBucket → Result (List Bucket) ReadError
buckets_read fields before [] = Ok before
buckets_read fields before (b ∷ bs) =
    and_then (bucket_read fields b) (λ x. buckets_read fields (before ++ x ∷ []) bs)

-- whether a number is a key of these entries
abbrev pub has_key : {X : Type 0} → List (ℕ × X) → ℕ → Bool
has_key entries n = is_some (lookup (is_at (nat_cmp n)) entries)

-- a group's number is at least 1, and new
abbrev pub group_fault : List (ℕ × Group) → Number → FaultLine
group_fault before n = line_if ((n.value == 0) || has_key before n.value) n.line

-- a group by its parts
abbrev pub group_of : Number → List Bucket → Group
group_of n bs = record { number = n.value; buckets = bs }

-- a group after others
abbrev pub group_read : FieldTable → List (ℕ × Group) → WrittenGroup → Result Group ReadError
group_read fields before g =
    checked (group_fault before g.number)
    (and_then (bucket_read fields g.first) (λ b. and_then (buckets_read fields (b ∷ []) g.more) (λ bs. Ok (group_of g.number bs))))

-- groups after others, by number
abbrev pub groups_read : FieldTable → List (ℕ × Group) → List WrittenGroup → Result (List (ℕ × Group)) ReadError
groups_read fields before [] = Ok before
groups_read fields before (g ∷ gs) =
    and_then (group_read fields before g) (λ x. groups_read fields (insert_entry nat_cmp before x.number x) gs)

-- a target: a group is one of the table's
abbrev pub target_read : FieldTable → List (ℕ × Group) → WrittenTarget → Result Target ReadError
target_read fields groups (target.Bucket b) = and_then (bucket_read fields b) (λ x. Ok (does.Bucket x))
target_read fields groups (target.Group n) = unless_at (line_if (not (has_key groups n.value)) n.line) (does.Group n.value)
target_read fields groups target.Discard = Ok does.Discard

-- a row by its parts
abbrev pub row_with : Number → List (ℕ × ℕ × ℕ) → Target → Row
row_with p ms t = record { priority = p.value; matches = ms; target = t }

-- a row: it matches fields but the switch
abbrev pub row_read : (version : ℕ) → FieldTable → List (ℕ × Group) → WrittenRow → Result Row ReadError
row_read version fields groups r =
    checked (line_above 65535 r.priority)
    (and_then (matches_read version fields [] r.matches) (λ ms. and_then (target_read fields groups r.target) (λ t. Ok (row_with r.priority ms t))))

-- rows after others
abbrev pub rows_read : (version : ℕ) → FieldTable → List (ℕ × Group) → List Row → List WrittenRow → Result (List Row) ReadError
rows_read version fields groups before [] = Ok before
rows_read version fields groups before (r ∷ rs) =
    and_then (row_read version fields groups r) (λ x. rows_read version fields groups (before ++ x ∷ []) rs)

-- a table's switch is declared, and has no table before
abbrev pub table_fault : Topology → List (ℕ × Table) → Number → FaultLine
table_fault topo before n =
    first_of (line_above 65535 n) (line_if (not (is_switch topo n.value) || has_key before n.value) n.line)

-- a table by its parts
abbrev pub table_with : Number → List (ℕ × Group) → List Row → Table
table_with n groups rows = record { switch = n.value; groups = map (λ e. e.1) groups; rows = rows }

-- a table after others
abbrev pub table_read : (version : ℕ) → DeclaredValue → List (ℕ × Table) → WrittenTable → Result Table ReadError
table_read version s before t =
    checked (table_fault s.topo before t.switch)
    (and_then (groups_read s.fields [] t.groups) (λ gs. and_then (rows_read version s.fields gs [] t.rows) (λ rs. Ok (table_with t.switch gs rs))))

-- tables after others, by switch
abbrev pub tables_read : (version : ℕ) → DeclaredValue → List (ℕ × Table) → List WrittenTable → Result (List (ℕ × Table)) ReadError
tables_read version s before [] = Ok before
tables_read version s before (t ∷ ts) =
    and_then (table_read version s before t) (λ x. tables_read version s (insert_entry nat_cmp before x.switch x) ts)

-- a table without groups and rows
abbrev pub empty_table : ℕ → Table
empty_table sw = record { switch = sw; groups = []; rows = [] }

-- the table of a switch, empty where none is written
abbrev pub table_for : List (ℕ × Table) → ℕ → Table
table_for tables sw = unwrap_or (lookup (is_at (nat_cmp sw)) tables) (empty_table sw)

-- ---- the whole

-- the number after the word `tables` is 1 or 2
abbrev pub version_fault : Number → FaultLine
version_fault n = line_if (not ((n.value == 1) || (n.value == 2))) n.line

-- the tables of all declared switches
abbrev pub whole : DeclaredValue → List (ℕ × Table) → Tables
whole s tables = record { fields = s.fields; topo = s.topo; tables = map (table_for tables) (numbers_of s.topo) }

-- the tables that are written, where `line` is the last token's: a tag is declared
abbrev pub tables_from : ℕ → WrittenTables → Result Tables ReadError
tables_from line x =
    checked (version_fault x.version)
    (and_then (said_after x.declarations nothing_declared)
    (λ s. and_then (tables_read x.version.value s [] x.tables) (λ ts. unless_at (line_if (is_none s.fields.tag) line) (whole s ts))))

-- a lexical fault
abbrev pub lexed : {X : Type 0} → Result X LexError → Result X ReadError
lexed (Ok x) = Ok x
lexed (Err lexical.NoMemory) = Err error.NoMemory
lexed (Err (lexical.BadByte line)) = Err (error.BadByte line)
lexed (Err (lexical.NumberTooLarge line)) = Err (error.NumberTooLarge line)

-- the tables that tokens write, or their first fault
abbrev pub tables_of_tokens : List Token → Result Tables ReadError
tables_of_tokens ts = and_then (written_of ts) (λ x. tables_from (last_line 1 ts) x)

-- the tables of a text, or its first fault
abbrev pub tables_of : List ℕ → Result Tables ReadError
tables_of text = and_then (lexed (tokens_of text)) tables_of_tokens
