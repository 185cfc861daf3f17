-- A text of tables read token by token.
use Rattle.std.specs.Prelude.{◌≡◌, ℕ, List, [], ◌∷◌, ◌++◌, Option, Some, None, Ok, Err, if◌then◌else◌, option_and_then, ⊤}
use Rattle.std.specs.declared.result.Result.{Result}
use Rattle.nk_lex.specs.declared.kind.Kind.TheVariants as kind
use Rattle.nk_lex.specs.declared.token.Token.{Token}
use Rattle.nk_lex.specs.declared.ident.Ident.{Ident}
use Rattle.nk_lex.specs.declared.ident.Number.{Number}
use Rattle.nk_lex.specs.Faults.{and_then}
use Rattle.nk_tabgrammar.specs.declared.written.Declaration.{Declaration}
use Rattle.nk_tabgrammar.specs.declared.written.Declaration.TheVariants as declared
use Rattle.nk_tabgrammar.specs.declared.written.Way.TheVariants as way
use Rattle.nk_tabgrammar.specs.declared.written.WrittenMatch.{WrittenMatch}
use Rattle.nk_tabgrammar.specs.declared.written.WrittenBucket.{WrittenBucket}
use Rattle.nk_tabgrammar.specs.declared.written.WrittenTarget.{WrittenTarget}
use Rattle.nk_tabgrammar.specs.declared.written.WrittenTarget.TheVariants as target
use Rattle.nk_tabgrammar.specs.declared.written.WrittenRow.{WrittenRow}
use Rattle.nk_tabgrammar.specs.declared.written.WrittenGroup.{WrittenGroup}
use Rattle.nk_tabgrammar.specs.declared.written.WrittenTable.{WrittenTable}
use Rattle.nk_tabgrammar.specs.declared.written.WrittenTables.{WrittenTables}
use Rattle.nk_tabgrammar.specs.declared.written.ReadError.{ReadError}
use Rattle.nk_tabgrammar.specs.declared.written.ReadError.TheVariants as error
use Rattle.nk_lex.specs.declared.quad.Quad.{Quad}
use Rattle.nk_lex.specs.declared.quad.Quad.TheVariants as quad
use Rattle.nk_lex.specs.declared.quad.QuadNext.{QuadNext}
use Rattle.nk_lex.specs.declared.quad.QuadNext.TheVariants as next
use Rattle.nk_tabgrammar.specs.declared.stage.Place.{Place}
use Rattle.nk_tabgrammar.specs.declared.stage.Place.TheVariants as place
use Rattle.nk_tabgrammar.specs.declared.stage.PlaceNext.{PlaceNext}
use Rattle.nk_tabgrammar.specs.declared.stage.PlaceNext.TheVariants as then_place
use Rattle.nk_tabgrammar.specs.declared.stage.Owner.{Owner}
use Rattle.nk_tabgrammar.specs.declared.stage.Owner.TheVariants as owner
use Rattle.nk_tabgrammar.specs.declared.stage.Stage.{Stage}
use Rattle.nk_tabgrammar.specs.declared.stage.Stage.TheVariants as stage
use Rattle.nk_tabgrammar.specs.declared.stage.Declaring.TheVariants as declaring
use Rattle.nk_tabgrammar.specs.declared.stage.Grouping.TheVariants as grouping
use Rattle.nk_tabgrammar.specs.declared.stage.InRow.TheVariants as in_row
use Rattle.nk_tabgrammar.specs.Terminal.{Terminal, is_mark, with_table_name, with_table_number, table_terminal_of}

-- a text that is read: what may come next, what is done, and the table that is read
pub record Reading : Type 0 where
  pub stage : Stage
  pub text : WrittenTables
  pub table : WrittenTable

-- a state by its parts
abbrev pub table_reading : Stage → WrittenTables → WrittenTable → Reading
table_reading s x c = record { stage = s; text = x; table = c }

-- a text that begins
abbrev pub opened : Number → WrittenTables
opened n = record { version = n; declarations = []; tables = [] }

-- a table that begins
abbrev pub opened_table : Number → WrittenTable
opened_table n = record { switch = n; groups = []; rows = [] }

-- before there is one
abbrev pub no_number : Number
no_number = record { value = 0; line = 0 }

abbrev pub no_table : WrittenTable
no_table = opened_table no_number

-- one more declaration
abbrev pub with_declaration : WrittenTables → Declaration → WrittenTables
with_declaration x d = record x { declarations = x.declarations ++ d ∷ [] }

-- one more table
abbrev pub with_table : WrittenTables → WrittenTable → WrittenTables
with_table x t = record x { tables = x.tables ++ t ∷ [] }

-- one more group
abbrev pub with_group : WrittenTable → WrittenGroup → WrittenTable
with_group t g = record t { groups = t.groups ++ g ∷ [] }

-- one more row
abbrev pub with_table_row : WrittenTable → WrittenRow → WrittenTable
with_table_row t r = record t { rows = t.rows ++ r ∷ [] }

-- a match by its parts
abbrev pub match_of : Ident → Number → Option Number → WrittenMatch
match_of w n l = record { name = w; number = n; length = l }

-- matches and one more
abbrev pub with_table_match : List WrittenMatch → Ident → Number → Option Number → List WrittenMatch
with_table_match ms w n l = ms ++ match_of w n l ∷ []

-- a row by its parts
abbrev pub row_written : Number → List WrittenMatch → WrittenTarget → WrittenRow
row_written p ms t = record { priority = p; matches = ms; target = t }

-- one more token of a link
abbrev pub table_quad_step : Quad → Terminal → QuadNext
table_quad_step quad.Start t = with_table_number t next.Refused (λ a. next.Going (quad.Switch a))
table_quad_step (quad.Switch a) t = if is_mark kind.Colon t then next.Going (quad.SwitchColon a) else next.Refused
table_quad_step (quad.SwitchColon a) t = with_table_number t next.Refused (λ m. next.Going (quad.Port a m))
table_quad_step (quad.Port a m) t = if is_mark kind.Arrow t then next.Going (quad.Arrow a m) else next.Refused
table_quad_step (quad.Arrow a m) t = with_table_number t next.Refused (λ b. next.Going (quad.ToSwitch a m b))
table_quad_step (quad.ToSwitch a m b) t = if is_mark kind.Colon t then next.Going (quad.ToColon a m b) else next.Refused
table_quad_step (quad.ToColon a m b) t = with_table_number t next.Refused (λ n. next.Full a m b n)

-- what a link's next token leads to
abbrev pub table_link_on : WrittenTables → WrittenTable → QuadNext → Option Reading
table_link_on x c next.Refused = None
table_link_on x c (next.Going q) = Some (table_reading (stage.Declared (declaring.Link q)) x c)
table_link_on x c (next.Full a m b n) = Some (table_reading stage.Between (with_declaration x (declared.Link a m b n)) c)

-- one more token of a bucket
abbrev pub place_step : Place → Terminal → PlaceNext
place_step (place.Sets ps) t =
    with_table_name t (if is_mark kind.Out t then then_place.Going (place.Out ps) else then_place.Refused)
    (λ w. then_place.Going (place.Named ps w))
place_step (place.Named ps w) t = if is_mark kind.Assign t then then_place.Going (place.Assigned ps w) else then_place.Refused
place_step (place.Assigned ps w) t =
    with_table_number t then_place.Refused (λ n. then_place.Going (place.Sets (ps ++ record { name = w; number = n } ∷ [])))
place_step (place.Out ps) t =
    with_table_number t (if is_mark kind.In t then then_place.Going (place.Left ps way.Back) else then_place.Refused)
    (λ n. then_place.Going (place.Left ps (way.Port n)))
place_step (place.Left ps e) t =
    if is_mark kind.CloseBracket t then then_place.Full (record { sets = ps; way = e }) else then_place.Refused

-- a bucket that is whole
abbrev pub bucket_done : WrittenTables → WrittenTable → Owner → WrittenBucket → Reading
bucket_done x c (owner.First n) b = table_reading (stage.Grouped (grouping.BucketRead (record { number = n; first = b; more = [] }))) x c
bucket_done x c (owner.Next g) b = table_reading (stage.Grouped (grouping.BucketRead (record g { more = g.more ++ b ∷ [] }))) x c
bucket_done x c (owner.Row p ms) b = table_reading stage.Rows x (with_table_row c (row_written p ms (target.Bucket b)))

-- what a bucket's next token leads to
abbrev pub bucket_on : WrittenTables → WrittenTable → Owner → PlaceNext → Option Reading
bucket_on x c o then_place.Refused = None
bucket_on x c o (then_place.Going p) = Some (table_reading (stage.InBucket o p) x c)
bucket_on x c o (then_place.Full b) = Some (bucket_done x c o b)

-- a declaration or a table begins
abbrev pub begin_table_text : WrittenTables → WrittenTable → Terminal → Option Reading
begin_table_text x c t =
    if is_mark kind.Field t then Some (table_reading (stage.Declared declaring.Field) x c)
    else if is_mark kind.Tag t then Some (table_reading (stage.Declared declaring.Tag) x c)
    else if is_mark kind.Switch t then Some (table_reading (stage.Declared declaring.Switch) x c)
    else if is_mark kind.Link t then Some (table_reading (stage.Declared (declaring.Link quad.Start)) x c)
    else if is_mark kind.Table t then Some (table_reading stage.Table x c)
    else None

-- a row or a table begins
abbrev pub begin_row : WrittenTables → WrittenTable → Terminal → Option Reading
begin_row x c t =
    if is_mark kind.Row t then Some (table_reading (stage.InRow in_row.Row) x c)
    else if is_mark kind.Table t then Some (table_reading stage.Table (with_table x c) no_table)
    else None

-- a group, a row or a table begins
abbrev pub begin_group : WrittenTables → WrittenTable → Terminal → Option Reading
begin_group x c t = if is_mark kind.Group t then Some (table_reading (stage.Grouped grouping.Group) x c) else begin_row x c t

-- a match or the arrow begins
abbrev pub begin_match : WrittenTables → WrittenTable → Number → List WrittenMatch → Terminal → Option Reading
begin_match x c p ms t =
    with_table_name t (if is_mark kind.Arrow t then Some (table_reading (stage.InRow (in_row.Target p ms)) x c) else None)
    (λ w. Some (table_reading (stage.InRow (in_row.MatchNamed p ms w)) x c))

-- a target begins
abbrev pub begin_target : WrittenTables → WrittenTable → Number → List WrittenMatch → Terminal → Option Reading
begin_target x c p ms t =
    if is_mark kind.OpenBracket t then Some (table_reading (stage.InBucket (owner.Row p ms) (place.Sets [])) x c)
    else if is_mark kind.Group t then Some (table_reading (stage.InRow (in_row.TargetGroup p ms)) x c)
    else if is_mark kind.Drop t then Some (table_reading stage.Rows x (with_table_row c (row_written p ms target.Discard)))
    else None

-- one more token, by what may come next
abbrev pub next_table_reading : Stage → WrittenTables → WrittenTable → Terminal → Option Reading
next_table_reading stage.Start x c t = if is_mark kind.Tables t then Some (table_reading stage.Version x c) else None
next_table_reading stage.Version x c t = with_table_number t None (λ n. Some (table_reading stage.Between (opened n) c))
next_table_reading stage.Between x c t = begin_table_text x c t
next_table_reading (stage.Declared declaring.Field) x c t = with_table_name t None (λ w. Some (table_reading (stage.Declared (declaring.FieldNamed w)) x c))
next_table_reading (stage.Declared (declaring.FieldNamed w)) x c t =
    with_table_number t None (λ n. Some (table_reading stage.Between (with_declaration x (declared.Field w n)) c))
next_table_reading (stage.Declared declaring.Tag) x c t = with_table_name t None (λ w. Some (table_reading stage.Between (with_declaration x (declared.Tag w)) c))
next_table_reading (stage.Declared declaring.Switch) x c t = with_table_number t None (λ n. Some (table_reading (stage.Declared (declaring.SwitchNumbered n)) x c))
next_table_reading (stage.Declared (declaring.SwitchNumbered n)) x c t = if is_mark kind.Ports t then Some (table_reading (stage.Declared (declaring.FirstPort n)) x c) else None
next_table_reading (stage.Declared (declaring.FirstPort n)) x c t = with_table_number t None (λ p. Some (table_reading (stage.Declared (declaring.PortRead n p [])) x c))
next_table_reading (stage.Declared (declaring.NextPort n p ps)) x c t = with_table_number t None (λ q. Some (table_reading (stage.Declared (declaring.PortRead n p (ps ++ q ∷ []))) x c))
next_table_reading (stage.Declared (declaring.PortRead n p ps)) x c t =
    if is_mark kind.Comma t then Some (table_reading (stage.Declared (declaring.NextPort n p ps)) x c)
    else begin_table_text (with_declaration x (declared.Switch n p ps)) c t
next_table_reading (stage.Declared (declaring.Link q)) x c t = table_link_on x c (table_quad_step q t)
next_table_reading stage.Table x c t = with_table_number t None (λ n. Some (table_reading stage.Groups x (opened_table n)))
next_table_reading stage.Groups x c t = begin_group x c t
next_table_reading (stage.Grouped grouping.Group) x c t = with_table_number t None (λ n. Some (table_reading (stage.Grouped (grouping.GroupNumbered n)) x c))
next_table_reading (stage.Grouped (grouping.GroupNumbered n)) x c t = if is_mark kind.Equal t then Some (table_reading (stage.Grouped (grouping.FirstBucket n)) x c) else None
next_table_reading (stage.Grouped (grouping.FirstBucket n)) x c t =
    if is_mark kind.OpenBracket t then Some (table_reading (stage.InBucket (owner.First n) (place.Sets [])) x c) else None
next_table_reading (stage.Grouped (grouping.BucketRead g)) x c t =
    if is_mark kind.OpenBracket t then Some (table_reading (stage.InBucket (owner.Next g) (place.Sets [])) x c)
    else begin_group x (with_group c g) t
next_table_reading (stage.InBucket o p) x c t = bucket_on x c o (place_step p t)
next_table_reading stage.Rows x c t = begin_row x c t
next_table_reading (stage.InRow in_row.Row) x c t = with_table_number t None (λ p. Some (table_reading (stage.InRow (in_row.RowNumbered p)) x c))
next_table_reading (stage.InRow (in_row.RowNumbered p)) x c t = if is_mark kind.Colon t then Some (table_reading (stage.InRow (in_row.Matches p [])) x c) else None
next_table_reading (stage.InRow (in_row.Matches p ms)) x c t = begin_match x c p ms t
next_table_reading (stage.InRow (in_row.MatchNamed p ms w)) x c t =
    if is_mark kind.Equal t then Some (table_reading (stage.InRow (in_row.MatchTested p ms w)) x c) else None
next_table_reading (stage.InRow (in_row.MatchTested p ms w)) x c t = with_table_number t None (λ n. Some (table_reading (stage.InRow (in_row.MatchValued p ms w n)) x c))
next_table_reading (stage.InRow (in_row.MatchValued p ms w n)) x c t =
    if is_mark kind.Slash t then Some (table_reading (stage.InRow (in_row.MatchSlashed p ms w n)) x c)
    else begin_match x c p (with_table_match ms w n None) t
next_table_reading (stage.InRow (in_row.MatchSlashed p ms w n)) x c t =
    with_table_number t None (λ l. Some (table_reading (stage.InRow (in_row.Matches p (with_table_match ms w n (Some l)))) x c))
next_table_reading (stage.InRow (in_row.Target p ms)) x c t = begin_target x c p ms t
next_table_reading (stage.InRow (in_row.TargetGroup p ms)) x c t =
    with_table_number t None (λ n. Some (table_reading stage.Rows x (with_table_row c (row_written p ms (target.Group n)))))

-- one more token
abbrev pub read_table_token : Reading → Terminal → Option Reading
read_table_token r t = next_table_reading r.stage r.text r.table t

-- all tokens of a list
abbrev pub read_table_tokens : List Terminal → Reading → Option Reading
read_table_tokens [] r = Some r
read_table_tokens (t ∷ ts) r = option_and_then (read_table_tokens ts) (read_table_token r t)

-- before the first token
abbrev pub first_table_reading : Reading
first_table_reading = table_reading stage.Start (opened no_number) no_table

-- what is written, if the text may end here
abbrev pub table_text_ended : Stage → WrittenTables → WrittenTable → Option WrittenTables
table_text_ended stage.Between x c = Some x
table_text_ended (stage.Declared (declaring.PortRead n p ps)) x c = Some (with_declaration x (declared.Switch n p ps))
table_text_ended stage.Groups x c = Some (with_table x c)
table_text_ended (stage.Grouped (grouping.BucketRead g)) x c = Some (with_table x (with_group c g))
table_text_ended stage.Rows x c = Some (with_table x c)
table_text_ended s x c = None

-- what is written at a state, if the text may end there
abbrev pub written_at_end : Reading → Option WrittenTables
written_at_end r = table_text_ended r.stage r.text r.table

-- what a token leads to: refused where no text goes on with it
abbrev pub table_judged : {X : Type 0} → ℕ → Option X → Result X ReadError
table_judged line None = Err (error.Unexpected line)
table_judged line (Some x) = Ok x

-- what the tokens that are left make of it, or the first fault; `line` is that of the last token before
abbrev pub rest_of_text : List Token → Reading → ℕ → Result WrittenTables ReadError
rest_of_text [] r line = table_judged line (written_at_end r)
rest_of_text (t ∷ ts) r line = and_then (table_judged t.line (read_table_token r (table_terminal_of t))) (λ s. rest_of_text ts s t.line)

-- what a text's tokens write, or the first fault
abbrev pub written_of : List Token → Result WrittenTables ReadError
written_of ts = rest_of_text ts first_table_reading 1

-- running out of memory says nothing, any other fault is the one that is wanted
abbrev pub TableParseFails : {Y : Type 0} → ReadError → Result Y ReadError → Type 0
TableParseFails error.NoMemory wanted = ⊤
TableParseFails e wanted = wanted ≡ Err e

-- what was answered is what is wanted, unless memory ran out
abbrev pub TableParseReturns : {X Y : Type 0} → (X → Y) → Result X ReadError → Result Y ReadError → Type 0
TableParseReturns view (Ok x) wanted = wanted ≡ Ok (view x)
TableParseReturns view (Err e) wanted = TableParseFails e wanted
