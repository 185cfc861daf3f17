-- A table text read token by token: what is known of the tokens so far, and how one more changes it. `end` says what the text
-- is, and the law is that this is what the whole text writes (`tables_of_tokens`).
use Rattle.std.specs.Prelude.{◌≡◌, ◌↔◌, ℕ, ◌==◌, not, nat_lt, Bool, true, false, Option, Some, None, Ok, Err, is_none, if◌then◌else◌, map, unwrap_or, List, [], ◌∷◌, ◌++◌, fold, slice_index, ⊤}
use Rattle.std.specs.declared.result.Result.{Result}
use Rattle.std.specs.List.{list_any}
use Rattle.std.specs.Ordering.{nat_cmp}
use Rattle.std.specs.BTreeMap.{insert_entry}
use Rattle.nk_lex.specs.declared.token.Token.{Token}
use Rattle.nk_lex.specs.declared.ident.Number.{Number}
use Rattle.nk_lex.specs.declared.ident.Ident.{Ident}
use Rattle.nk_lex.specs.Faults.{first_of}
use Rattle.nk_field.specs.Packet.{FieldTable, field_named}
use Rattle.nk_field.specs.Act.{act_then}
use Rattle.nk_prefix.specs.Prefix.{digits_of}
use Rattle.nk_topo.specs.Topology.{is_switch, with_switch}
use Rattle.nk_table.specs.declared.Bucket.{Bucket}
use Rattle.nk_table.specs.declared.Exit.{Exit}
use Rattle.nk_table.specs.declared.Exit.TheVariants as exit
use Rattle.nk_table.specs.declared.Group.{Group}
use Rattle.nk_table.specs.declared.Row.{Row}
use Rattle.nk_table.specs.declared.Table.{Table}
use Rattle.nk_table.specs.declared.Tables.{Tables}
use Rattle.nk_table.specs.declared.Target.{Target}
use Rattle.nk_table.specs.declared.Target.TheVariants as does
use Rattle.nk_declare.specs.declared.fault.DeclareError.{DeclareError}
use Rattle.nk_declare.specs.Declarations.{DeclaredValue, MaybeFault, nothing_declared, declared_with, is_from, number_fault, port_fault}
use Rattle.nk_declare.specs.Declarations as declare
use Rattle.nk_tabgrammar.specs.declared.states.State.{State}
use Rattle.nk_tabgrammar.specs.declared.states.State.TheVariants as state
use Rattle.nk_tabgrammar.specs.declared.states.Tells.{Tells}
use Rattle.nk_tabgrammar.specs.declared.states.Tells.TheVariants as tells
use Rattle.nk_tabgrammar.specs.declared.written.ReadError.{ReadError}
use Rattle.nk_tabgrammar.specs.declared.written.ReadError.TheVariants as error
use Rattle.nk_tabgrammar.specs.Answer.{table_terminals}
use Rattle.nk_tabgrammar.specs.Machine.{no_number}
use Rattle.nk_tabgrammar.specs.Spelling.{TableTextGoesOn}
use Rattle.nk_tabgrammar.specs.States.{after_token, at_end}
use Rattle.nk_tabtext.specs.Values.{FaultLine, fault_of, group_fault, has_key, length_fault, line_above, line_if, ones_fault, placed_match, table_fault, tables_of_tokens, unless_at, version_fault, whole}

-- the number that a token is
abbrev pub number_of_token : Token → Number
number_of_token t = record { value = t.value; line = t.line }

-- the word that a token is
abbrev pub word_of_token : Token → Ident
word_of_token t = record { text = t.text; line = t.line }

-- ---- declarations

-- what is declared, and what is told of the declaration that is read
pub record DeclaringValue : Type 0 where
  pub said : DeclaredValue
  pub name : Ident
  pub switch : ℕ
  pub ports : List ℕ
  pub from_switch : Number
  pub from_port : Number
  pub to_switch : Number

abbrev pub first_declaring : DeclaringValue
first_declaring = record {
  said = nothing_declared;
  name = record { text = []; line = 0 };
  switch = 0;
  ports = [];
  from_switch = no_number;
  from_port = no_number;
  to_switch = no_number;
}

-- what a declaration's fault, or none, comes to
abbrev pub unless_declared : {X : Type 0} → MaybeFault → X → Result X ReadError
unless_declared None x = Ok x
unless_declared (Some e) x = Err (fault_of e)

-- the declaration is whole, and says this
abbrev pub declares_of : DeclaringValue → Result DeclaredValue DeclareError → Result DeclaringValue ReadError
declares_of d (Ok s) = Ok (record d { said = s })
declares_of d (Err e) = Err (fault_of e)

abbrev pub declares : DeclaringValue → declare.NetworkDeclaration → Result DeclaringValue ReadError
declares d declaration = declares_of d (declared_with d.said declaration)

abbrev pub field_name_told : DeclaringValue → Token → Result DeclaringValue ReadError
field_name_told d t = Ok (record d { name = word_of_token t })

abbrev pub field_max_told : DeclaringValue → Token → Result DeclaringValue ReadError
field_max_told d t = declares d (declare.field d.name (number_of_token t))

abbrev pub tag_told : DeclaringValue → Token → Result DeclaringValue ReadError
tag_told d t = declares d (declare.tag (word_of_token t))

abbrev pub switch_told : DeclaringValue → Token → Result DeclaringValue ReadError
switch_told d t = unless_declared (number_fault d.said.topo (number_of_token t)) (record d { switch = t.value; ports = [] })

abbrev pub port_told : DeclaringValue → Token → Result DeclaringValue ReadError
port_told d t = unless_declared (port_fault d.ports (number_of_token t)) (record d { ports = d.ports ++ t.value ∷ [] })

abbrev pub link_told : DeclaringValue → Token → Result DeclaringValue ReadError
link_told d t = declares d (declare.link d.from_switch d.from_port d.to_switch (number_of_token t))

-- the switch is declared with its ports, where it is new; where a text is read, it is
abbrev pub switch_ends_told : DeclaringValue → DeclaringValue
switch_ends_told d =
    if is_switch d.said.topo d.switch then d
    else record d { said = record d.said { topo = with_switch d.said.topo d.switch d.ports } }

-- ---- the table that is read

-- its groups and rows, and what is told of the group or row that is read
pub record FillingValue : Type 0 where
  pub switch : Option ℕ
  pub groups : List (ℕ × Group)
  pub rows : List Row
  pub number : ℕ
  pub buckets : List Bucket
  pub priority : ℕ
  pub matches : List (ℕ × ℕ × ℕ)
  pub field : ℕ
  pub max : ℕ
  pub value : Number
  pub sets : List (ℕ × ℕ)
  pub exit : Exit

abbrev pub first_filling : FillingValue
first_filling = record {
  switch = None;
  groups = [];
  rows = [];
  number = 0;
  buckets = [];
  priority = 0;
  matches = [];
  field = 0;
  max = 0;
  value = no_number;
  sets = [];
  exit = exit.Back;
}

-- the table that is read among those before, by its switch, where one is read
abbrev pub finished_at : Option ℕ → List (ℕ × Table) → FillingValue → List (ℕ × Table)
finished_at None tables f = tables
finished_at (Some sw) tables f =
    insert_entry nat_cmp tables sw (record { switch = sw; groups = map (λ g. g.1) f.groups; rows = f.rows })

-- the table that is read among those before, where one is read
abbrev pub finished : List (ℕ × Table) → FillingValue → List (ℕ × Table)
finished tables f = finished_at f.switch tables f

-- a table begins, and the one before it is whole
abbrev pub table_told : DeclaredValue → List (ℕ × Table) → FillingValue → Token → Result (FillingValue × List (ℕ × Table)) ReadError
table_told s tables f t =
    let before = finished tables f in
    unless_at (table_fault s.topo before (number_of_token t)) (record f { switch = Some t.value; groups = []; rows = [] }, before)

-- a row with this target is whole
abbrev pub row_ends : FillingValue → Target → FillingValue
row_ends f target = record f {
  rows = f.rows ++ record { priority = f.priority; matches = f.matches; target = target } ∷ [];
  matches = [];
}

-- a field whose name comes, from `low` on, and none of those that are taken
abbrev pub name_fault : FieldTable → (low : ℕ) → (taken : ℕ → Bool) → Token → FaultLine
name_fault fields low taken t =
    first_of (line_if (not (is_from low (field_named fields t.text))) t.line)
    (line_if (taken (unwrap_or (field_named fields t.text) 0)) t.line)

abbrev pub with_field_of : FieldTable → FillingValue → Token → FillingValue
with_field_of fields f t =
    let place = unwrap_or (field_named fields t.text) 0 in
    record f { field = place; max = slice_index fields.maxima place }

abbrev pub set_name_told : FieldTable → FillingValue → Token → Result FillingValue ReadError
set_name_told fields f t =
    unless_at (name_fault fields 2 (λ n. list_any (λ s. s.0 == n) f.sets) t) (with_field_of fields f t)

abbrev pub match_name_told : FieldTable → FillingValue → Token → Result FillingValue ReadError
match_name_told fields f t =
    unless_at (name_fault fields 1 (λ n. list_any (λ m. m.0 == n) f.matches) t) (with_field_of fields f t)

abbrev pub set_value_told : FillingValue → Token → Result FillingValue ReadError
set_value_told f t = unless_at (line_above f.max (number_of_token t)) (record f { sets = act_then f.sets ((f.field, t.value) ∷ []) })

-- the match is the exact one, unless a length follows
abbrev pub match_value_told : FillingValue → Token → Result FillingValue ReadError
match_value_told f t =
    unless_at (line_above f.max (number_of_token t))
    (record f { matches = placed_match (f.field, t.value, digits_of f.max) f.matches; value = number_of_token t })

abbrev pub out_port_told : FillingValue → Token → Result FillingValue ReadError
out_port_told f t = unless_at (line_above 65535 (number_of_token t)) (record f { exit = exit.Port t.value })

abbrev pub group_told : FillingValue → Token → Result FillingValue ReadError
group_told f t = unless_at (group_fault f.groups (number_of_token t)) (record f { number = t.value; buckets = [] })

abbrev pub row_told : FillingValue → Token → Result FillingValue ReadError
row_told f t = unless_at (line_above 65535 (number_of_token t)) (record f { priority = t.value })

abbrev pub row_group_told : FillingValue → Token → Result FillingValue ReadError
row_group_told f t = unless_at (line_if (not (has_key f.groups t.value)) t.line) (row_ends f (does.Group t.value))

abbrev pub out_back_told : FillingValue → FillingValue
out_back_told f = record f { exit = exit.Back }

-- the first match of a field from this one's on becomes this one
abbrev pub match_set : ℕ × ℕ × ℕ → List (ℕ × ℕ × ℕ) → List (ℕ × ℕ × ℕ)
match_set m [] = []
match_set m (x ∷ xs) = if nat_lt x.0 m.0 then x ∷ match_set m xs else m ∷ xs

-- the length of the match that stands there
abbrev pub match_length_told : (version : ℕ) → FillingValue → Token → Result FillingValue ReadError
match_length_told version f t =
    let digits = digits_of f.max in
    unless_at (first_of (length_fault version digits (Some (number_of_token t))) (ones_fault digits t.value f.value))
    (record f { matches = match_set (f.field, f.value.value, t.value) f.matches })

abbrev pub bucket_read : FillingValue → Bucket
bucket_read f = record { sets = f.sets; exit = f.exit }

abbrev pub row_bucket_told : FillingValue → FillingValue
row_bucket_told f = row_ends (record f { sets = [] }) (does.Bucket (bucket_read f))

abbrev pub row_drop_told : FillingValue → FillingValue
row_drop_told f = row_ends f does.Discard

abbrev pub group_bucket_told : FillingValue → FillingValue
group_bucket_told f = record f { buckets = f.buckets ++ bucket_read f ∷ []; sets = [] }

abbrev pub group_ends_told : FillingValue → FillingValue
group_ends_told f = record f {
  groups = insert_entry nat_cmp f.groups f.number (record { number = f.number; buckets = f.buckets });
  buckets = [];
}

-- ---- the whole

-- what is known where no rule is broken so far
pub record PartialValue : Type 0 where
  pub version : ℕ
  pub declaring : DeclaringValue
  pub tables : List (ℕ × Table)
  pub filling : FillingValue

abbrev pub first_partial : PartialValue
first_partial = record { version = 0; declaring = first_declaring; tables = []; filling = first_filling }

abbrev pub with_declaring : PartialValue → Result DeclaringValue ReadError → Result PartialValue ReadError
with_declaring p (Ok d) = Ok (record p { declaring = d })
with_declaring p (Err e) = Err e

abbrev pub with_filling : PartialValue → Result FillingValue ReadError → Result PartialValue ReadError
with_filling p (Ok f) = Ok (record p { filling = f })
with_filling p (Err e) = Err e

abbrev pub with_filled : PartialValue → Result (FillingValue × List (ℕ × Table)) ReadError → Result PartialValue ReadError
with_filled p (Ok r) = Ok (record p { filling = r.0; tables = r.1 })
with_filled p (Err e) = Err e

abbrev pub version_told : PartialValue → Token → Result PartialValue ReadError
version_told p t = unless_at (version_fault (number_of_token t)) (record p { version = t.value })

-- what is known after a token that tells this, or the line of the rule that it breaks
abbrev pub told : Tells → PartialValue → Token → Result PartialValue ReadError
told tells.Nothing p t = Ok p
told tells.Version p t = version_told p t
told tells.FieldName p t = with_declaring p (field_name_told p.declaring t)
told tells.FieldMax p t = with_declaring p (field_max_told p.declaring t)
told tells.Tag p t = with_declaring p (tag_told p.declaring t)
told tells.Switch p t = with_declaring p (switch_told p.declaring t)
told tells.Port p t = with_declaring p (port_told p.declaring t)
told tells.SwitchEnds p t = Ok (record p { declaring = switch_ends_told p.declaring })
told tells.LinkSwitch p t = Ok (record p { declaring = record p.declaring { from_switch = number_of_token t } })
told tells.LinkPort p t = Ok (record p { declaring = record p.declaring { from_port = number_of_token t } })
told tells.LinkToSwitch p t = Ok (record p { declaring = record p.declaring { to_switch = number_of_token t } })
told tells.LinkToPort p t = with_declaring p (link_told p.declaring t)
told tells.Table p t = with_filled p (table_told p.declaring.said p.tables p.filling t)
told tells.Group p t = with_filling p (group_told p.filling t)
told tells.SetName p t = with_filling p (set_name_told p.declaring.said.fields p.filling t)
told tells.SetValue p t = with_filling p (set_value_told p.filling t)
told tells.OutPort p t = with_filling p (out_port_told p.filling t)
told tells.OutBack p t = Ok (record p { filling = out_back_told p.filling })
told tells.GroupBucket p t = Ok (record p { filling = group_bucket_told p.filling })
told tells.GroupEnds p t = Ok (record p { filling = group_ends_told p.filling })
told tells.Row p t = with_filling p (row_told p.filling t)
told tells.MatchName p t = with_filling p (match_name_told p.declaring.said.fields p.filling t)
told tells.MatchValue p t = with_filling p (match_value_told p.filling t)
told tells.MatchLength p t = with_filling p (match_length_told p.version p.filling t)
told tells.RowBucket p t = Ok (record p { filling = row_bucket_told p.filling })
told tells.RowGroup p t = with_filling p (row_group_told p.filling t)
told tells.RowDrop p t = Ok (record p { filling = row_drop_told p.filling })

-- what the end of a text tells
abbrev pub end_told : Tells → PartialValue → PartialValue
end_told tells.SwitchEnds p = record p { declaring = switch_ends_told p.declaring }
end_told tells.GroupEnds p = record p { filling = group_ends_told p.filling }
end_told t p = p

-- the tables, where the text ends; `line` is the last token's
abbrev pub tables_at_end : Tells → PartialValue → ℕ → Result Tables ReadError
tables_at_end t p line =
    let q = end_told t p in
    unless_at (line_if (is_none q.declaring.said.fields.tag) line) (whole q.declaring.said (finished q.tables q.filling))

-- what is known of the tokens so far
pub data KnownValue : Type 0 where
  Sound : PartialValue → KnownValue
  Faulty : (line : ℕ) → KnownValue
  Stopped : (line : ℕ) → KnownValue

-- what may come next, the line of the last token, and what is known
pub record Progress : Type 0 where
  pub state : State
  pub line : ℕ
  pub known : KnownValue

abbrev pub first_table_progress : Progress
first_table_progress = record { state = state.Start; line = 1; known = Sound first_partial }

-- the line of a fault
abbrev pub line_of_fault : ReadError → Option ℕ
line_of_fault error.NoMemory = None
line_of_fault (error.BadByte line) = Some line
line_of_fault (error.NumberTooLarge line) = Some line
line_of_fault (error.Unexpected line) = Some line
line_of_fault (error.TableFault line) = Some line

abbrev pub known_of : Result PartialValue ReadError → KnownValue
known_of (Ok p) = Sound p
known_of (Err e) = Faulty (unwrap_or (line_of_fault e) 0)

-- what is known after a token that tells this; a fault of the rules stays
abbrev pub known_after : KnownValue → Tells → Token → KnownValue
known_after (Sound p) tl t = known_of (told tl p t)
known_after k tl t = k

-- the first rule that is broken is on this line, where one is
abbrev pub with_fault : Option ℕ → KnownValue → KnownValue
with_fault None k = k
with_fault (Some line) k = Faulty line

abbrev pub step_on : Option (State × Tells) → Progress → Token → Progress
step_on None p t = record p { known = Stopped t.line }
step_on (Some s) p t = record { state = s.0; line = t.line; known = known_after p.known s.1 t }

-- one more token, which changes nothing where no text goes on any more
abbrev pub progress_on : KnownValue → Progress → Token → Progress
progress_on (Stopped line) p t = p
progress_on k p t = step_on (after_token p.state t.kind) p t

abbrev pub progress_after : Progress → Token → Progress
progress_after p t = progress_on p.known p t

-- these are the tokens so far
abbrev pub IsTaken : List Token → Progress → Type 0
IsTaken ts p = p ≡ fold progress_after first_table_progress ts

-- no text goes on with the tokens
abbrev pub is_table_stopped : KnownValue → Bool
is_table_stopped (Stopped line) = true
is_table_stopped k = false

abbrev pub IsStopped : Progress → Type 0
IsStopped p = is_table_stopped p.known ≡ true

-- what the text is, where it ends with what is known; `e` is what its end tells, where it may end
abbrev pub read_at_end : KnownValue → Option Tells → (line : ℕ) → Result Tables ReadError
read_at_end (Stopped at) e line = Err (error.Unexpected at)
read_at_end (Faulty at) (Some e) line = Err (error.TableFault at)
read_at_end (Faulty at) None line = Err (error.Unexpected line)
read_at_end (Sound p) (Some e) line = tables_at_end e p line
read_at_end (Sound p) None line = Err (error.Unexpected line)

abbrev pub tables_of_progress : Progress → Result Tables ReadError
tables_of_progress p = read_at_end p.known (at_end p.state) p.line

-- Read token by token, a text is what it is as a whole: this is the law that `end` rests on.
abbrev pub ReadsAsWhole : Type 0
ReadsAsWhole = (ts : List Token) → tables_of_progress (fold progress_after first_table_progress ts) ≡ tables_of_tokens ts

-- A reader has stopped exactly where no text goes on with the tokens.
abbrev pub StopsWithTexts : Type 0
StopsWithTexts = (ts : List Token) → IsStopped (fold progress_after first_table_progress ts) ↔ (TableTextGoesOn (table_terminals ts) → ⊥)

-- where memory ran out, nothing changed
abbrev pub StaysWithoutMemory : {X V : Type 0} → Result X ReadError → V → V → Type 0
StaysWithoutMemory (Err error.NoMemory) old new = new ≡ old
StaysWithoutMemory r old new = ⊤
