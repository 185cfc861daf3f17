-- What the states tell of a text's tokens is what is written.
use Rattle.std.proofs.Common.{◌≡◌, ◌↔◌, List, [], ◌∷◌, ◌++◌, Option, refl, sym, ap, subst, ◌∙◌, append_assoc, map}
use Rattle.std.specs.Prelude.{Some, None, is_some, option_map, option_and_then}
use Rattle.std.specs.List.{flat_map}
use Rattle.nk_lex.specs.declared.kind.Kind.{Kind}
use Rattle.nk_lex.specs.declared.kind.Kind.TheVariants as kind
use Rattle.nk_lex.specs.declared.token.Token.{Token}
use Rattle.nk_lex.specs.declared.ident.Number.{Number}
use Rattle.nk_tabgrammar.specs.declared.written.Pair.{Pair}
use Rattle.nk_tabgrammar.specs.declared.written.Declaration.{Declaration}
use Rattle.nk_tabgrammar.specs.declared.written.Declaration.TheVariants as declared
use Rattle.nk_tabgrammar.specs.declared.written.Way.{Way}
use Rattle.nk_tabgrammar.specs.declared.written.Way.TheVariants as way
use Rattle.nk_tabgrammar.specs.declared.written.WrittenMatch.{WrittenMatch}
use Rattle.nk_tabgrammar.specs.declared.written.WrittenBucket.{WrittenBucket}
use Rattle.nk_tabgrammar.specs.declared.written.WrittenTarget.{WrittenTarget}
use Rattle.nk_tabgrammar.specs.declared.written.WrittenTarget.TheVariants as target
use Rattle.nk_tabgrammar.specs.declared.written.WrittenRow.{WrittenRow}
use Rattle.nk_tabgrammar.specs.declared.written.WrittenGroup.{WrittenGroup}
use Rattle.nk_tabgrammar.specs.declared.written.WrittenTable.{WrittenTable}
use Rattle.nk_tabgrammar.specs.declared.written.WrittenTables.{WrittenTables}
use Rattle.nk_tabgrammar.specs.declared.states.LinkState.TheVariants as link
use Rattle.nk_tabgrammar.specs.declared.states.BucketState.{BucketState}
use Rattle.nk_tabgrammar.specs.declared.states.BucketState.TheVariants as bucket
use Rattle.nk_tabgrammar.specs.declared.states.RowState.TheVariants as row
use Rattle.nk_tabgrammar.specs.declared.states.State.{State}
use Rattle.nk_tabgrammar.specs.declared.states.State.TheVariants as state
use Rattle.nk_tabgrammar.specs.declared.states.Tells.{Tells}
use Rattle.nk_tabgrammar.specs.declared.states.Tells.TheVariants as tells
use Rattle.nk_tabgrammar.specs.Terminal.{Terminal, name, number, mark, table_terminal_of}
use Rattle.nk_tabgrammar.specs.Spelling.{spell_port, spell_table_declaration, spell_length, spell_match, spell_set, spell_bucket, spell_target, spell_table_row, spell_group, spell_table, spell_text, way_token}
use Rattle.nk_tabgrammar.specs.Machine.{Reading, read_table_tokens, read_table_token, first_table_reading, written_at_end}
use Rattle.nk_tabgrammar.specs.Answer.{table_terminals, IsTableParse}
use Rattle.nk_tabgrammar.specs.States.{MaybeStep, after_token, after_in, at_end, state_of_stage}
use Rattle.nk_tabgrammar.specs.Telling.{Telling, told_alone, told_by_number, told_by, told_bucket, told_declaration, told_group, told_length, told_match, told_row, told_set, told_table, told_target, told_text, told_way, worded, tellings_from, tellings_of}
use Rattle.nk_tabgrammar.proofs.Answering.{answers, rest_reads}
use Rattle.nk_tabgrammar.proofs.Following.{by_kind, follows}
use Rattle.nk_tabgrammar.proofs.Spelled.{none_some, some_same}

-- ---- the same of terminals

-- the kind of a terminal that is a token
abbrev kind_in : Terminal → Kind
kind_in (name w) = kind.Name
kind_in (number n) = kind.Number
kind_in (mark k) = k

kind_of : (t : Token) → kind_in (table_terminal_of t) ≡ t.kind
kind_of t = by_kind (λ k t. kind_in t ≡ k) (λ w. refl) (λ n. refl) (λ k _ _. refl) t

abbrev tell_from : List Terminal → State → Option (List Telling)
tell_from [] s = option_map (λ e. told_by e None) (at_end s)
tell_from (t ∷ ts) s = option_and_then (λ p. option_map (λ l. told_by p.1 (worded t) ++ l) (tell_from ts p.0)) (after_token s (kind_in t))

same_tellings : (ts : List Token) (s : State) → tellings_from ts s ≡ tell_from (table_terminals ts) s
same_tellings [] s = refl
same_tellings (t ∷ ts) s = by_step (after_token s t.kind) (λ r. same_tellings ts r) ∙ ap (λ k. option_and_then go_on (after_token s k)) (sym (kind_of t))
  where
    go_on : State × Tells → Option (List Telling)
    go_on p = option_map (λ l. told_by p.1 (worded (table_terminal_of t)) ++ l) (tell_from (table_terminals ts) p.0)

    by_step : (o : Option (State × Tells)) → ((r : State) → tellings_from ts r ≡ tell_from (table_terminals ts) r)
        → option_and_then (λ p. option_map (λ l. told_by p.1 (worded (table_terminal_of t)) ++ l) (tellings_from ts p.0)) o ≡ option_and_then go_on o
    by_step None go = refl
    by_step (Some p) go = ap (option_map (λ l. told_by p.1 (worded (table_terminal_of t)) ++ l)) (go p.0)

-- ---- tokens after others

-- these tokens tell this on the way from a state to another, whatever stands after them
record Leads (us : List Terminal) (l : List Telling) (s r : State) : Type 0 where
  pub go : (vs : List Terminal) → tell_from (us ++ vs) s ≡ option_map (λ m. l ++ m) (tell_from vs r)

joined : (k l : List Telling) (o : Option (List Telling)) → option_map (λ m. k ++ m) (option_map (λ m. l ++ m) o) ≡ option_map (λ m. (k ++ l) ++ m) o
joined k l None = refl
joined k l (Some m) = ap Some (sym (append_assoc k l m))

none_before : (o : Option (List Telling)) → o ≡ option_map (λ m. [] ++ m) o
none_before None = refl
none_before (Some m) = refl

nothing : (s : State) → Leads [] [] s s
nothing s = record { go = λ vs. none_before (tell_from vs s) }

-- one token, then others
next : (t : Terminal) {s : State} (r : State) (e : Tells) {q : State} {us : List Terminal} {l : List Telling}
    → after_token s (kind_in t) ≡ Some (r, e) → Leads us l r q → Leads (t ∷ us) (told_by e (worded t) ++ l) s q
next t {s} r e {q} {us} {l} h more = record {
  go = λ vs.
      ap (option_and_then (λ p. option_map (λ m. told_by p.1 (worded t) ++ m) (tell_from (us ++ vs) p.0))) h
      ∙ ap (option_map (λ m. told_by e (worded t) ++ m)) (more.go vs)
      ∙ joined (told_by e (worded t)) l (tell_from vs q);
}

-- some, then others
following : {us vs : List Terminal} {k l : List Telling} {s r q : State} → Leads us k s r → Leads vs l r q → Leads (us ++ vs) (k ++ l) s q
following {us} {vs} {k} {l} {s} {r} {q} a b = record {
  go = λ ws.
      ap (λ ts. tell_from ts s) (append_assoc us vs ws) ∙ a.go (vs ++ ws) ∙ ap (option_map (λ m. k ++ m)) (b.go ws)
      ∙ joined k l (tell_from ws q);
}

-- one for each of a list
each : {X : Type 0} (f : X → List Terminal) (g : X → List Telling) (s : State) → ((x : X) → Leads (f x) (g x) s s)
    → (xs : List X) → Leads (flat_map f xs) (flat_map g xs) s s
each f g s one [] = nothing s
each f g s one (x ∷ xs) = following (one x) (each f g s one xs)

-- ---- buckets

module _ (at : BucketState → State) (whole : State) (ends : Tells)
    (is : (b : BucketState) (k : Kind) → after_token (at b) k ≡ after_in at whole ends b k)
    (told : told_by ends None ≡ told_alone ends ∷ []) where
  set_tells : (p : Pair) → Leads (spell_set p) (told_set p) (at bucket.Sets) (at bucket.Sets)
  set_tells p =
      next (name p.name) (at bucket.Named) tells.SetName (is bucket.Sets kind.Name)
      (next (mark kind.Assign) (at bucket.Assigned) tells.Nothing (is bucket.Named kind.Assign)
      (next (number p.number) (at bucket.Sets) tells.SetValue (is bucket.Assigned kind.Number) (nothing (at bucket.Sets))))

  bracket_tells : Leads (mark kind.CloseBracket ∷ []) (told_alone ends ∷ []) (at bucket.Left) whole
  bracket_tells =
      subst (λ l. Leads (mark kind.CloseBracket ∷ []) (l ++ []) (at bucket.Left) whole) told
      (next (mark kind.CloseBracket) whole ends (is bucket.Left kind.CloseBracket) (nothing whole))

  way_tells : (w : Way) → Leads (way_token w ∷ mark kind.CloseBracket ∷ []) (told_way w ∷ told_alone ends ∷ []) (at bucket.Out) whole
  way_tells way.Back = next (mark kind.In) (at bucket.Left) tells.OutBack (is bucket.Out kind.In) bracket_tells
  way_tells (way.Port n) = next (number n) (at bucket.Left) tells.OutPort (is bucket.Out kind.Number) bracket_tells

  bucket_tells : (s : State) → after_token s kind.OpenBracket ≡ Some (at bucket.Sets, tells.Nothing)
      → (b : WrittenBucket) → Leads (spell_bucket b) (told_bucket ends b) s whole
  bucket_tells s h b =
      next (mark kind.OpenBracket) (at bucket.Sets) tells.Nothing h
      (following (each spell_set told_set (at bucket.Sets) set_tells b.sets)
      (next (mark kind.Out) (at bucket.Out) tells.Nothing (is bucket.Sets kind.Out) (way_tells b.way)))

-- ---- rows

-- matches and the arrow, then a target
matches_tell : (ms : List WrittenMatch) (s : State) {us : List Terminal} {l : List Telling}
    → after_token s kind.Name ≡ Some (state.Row row.Named, tells.MatchName) → after_token s kind.Arrow ≡ Some (state.Row row.Target, tells.Nothing)
    → Leads us l (state.Row row.Target) state.Rows
    → Leads (flat_map spell_match ms ++ mark kind.Arrow ∷ us) (flat_map told_match ms ++ l) s state.Rows
matches_tell [] s named arrow more = next (mark kind.Arrow) (state.Row row.Target) tells.Nothing arrow more
matches_tell (m ∷ ms) s {us} {l} named arrow more =
    next (name m.name) (state.Row row.Named) tells.MatchName named
    (next (mark kind.Equal) (state.Row row.Tested) tells.Nothing refl
    (next (number m.number) (state.Row row.Valued) tells.MatchValue refl
    (by_length m.length (matches_tell ms (state.Row row.Valued) refl refl more) (matches_tell ms (state.Row row.Matches) refl refl more))))
  where
    by_length : (o : Option Number)
        → Leads (flat_map spell_match ms ++ mark kind.Arrow ∷ us) (flat_map told_match ms ++ l) (state.Row row.Valued) state.Rows
        → Leads (flat_map spell_match ms ++ mark kind.Arrow ∷ us) (flat_map told_match ms ++ l) (state.Row row.Matches) state.Rows
        → Leads ((spell_length o ++ flat_map spell_match ms) ++ mark kind.Arrow ∷ us) ((told_length o ++ flat_map told_match ms) ++ l) (state.Row row.Valued) state.Rows
    by_length None valued slashed = valued
    by_length (Some n) valued slashed =
        next (mark kind.Slash) (state.Row row.Slashed) tells.Nothing refl
        (next (number n) (state.Row row.Matches) tells.MatchLength refl slashed)

target_tells : (t : WrittenTarget) → Leads (spell_target t) (told_target t) (state.Row row.Target) state.Rows
target_tells (target.Bucket b) = bucket_tells state.InRow state.Rows tells.RowBucket (λ b k. refl) refl (state.Row row.Target) refl b
target_tells (target.Group n) =
    next (mark kind.Group) (state.Row row.TargetGroup) tells.Nothing refl (next (number n) state.Rows tells.RowGroup refl (nothing state.Rows))
target_tells target.Discard = next (mark kind.Drop) state.Rows tells.RowDrop refl (nothing state.Rows)

row_tells : (r : WrittenRow) → Leads (spell_table_row r) (told_row r) state.Rows state.Rows
row_tells r =
    next (mark kind.Row) (state.Row row.Row) tells.Nothing refl
    (next (number r.priority) (state.Row row.Numbered) tells.Row refl
    (next (mark kind.Colon) (state.Row row.Matches) tells.Nothing refl
    (matches_tell r.matches (state.Row row.Matches) refl refl (target_tells r.target))))

-- ---- groups

-- a group's number and its buckets
abbrev group_front : WrittenGroup → List Telling
group_front g = told_by_number tells.Group g.number ∷ (told_bucket tells.GroupBucket g.first ++ flat_map (told_bucket tells.GroupBucket) g.more)

group_tells : (g : WrittenGroup) → Leads (spell_group g) (group_front g) state.Groups state.BucketRead
group_tells g =
    next (mark kind.Group) state.Group tells.Nothing refl
    (next (number g.number) state.GroupNumbered tells.Group refl
    (next (mark kind.Equal) state.FirstBucket tells.Nothing refl
    (following (in_group state.FirstBucket refl g.first)
    (each spell_bucket (told_bucket tells.GroupBucket) state.BucketRead (in_group state.BucketRead refl) g.more))))
  where
    in_group : (s : State) → after_token s kind.OpenBracket ≡ Some (state.InGroup bucket.Sets, tells.Nothing)
        → (b : WrittenBucket) → Leads (spell_bucket b) (told_bucket tells.GroupBucket b) s state.BucketRead
    in_group s h b = bucket_tells state.InGroup state.BucketRead tells.GroupBucket (λ b k. refl) refl s h b

-- ---- tables

-- what ends is told with the next token
ended : (e : Telling) (o : Option (List Telling)) → option_map (λ l. (e ∷ []) ++ l) o ≡ option_map (λ m. e ∷ m) (option_map (λ l. [] ++ l) o)
ended e None = refl
ended e (Some l) = refl

-- lists after an end
regroup : (a : List Telling) (e : Telling) (c d : List Telling) → a ++ e ∷ (c ++ d) ≡ ((a ++ e ∷ []) ++ c) ++ d
regroup a e c d = sym (append_assoc (a ++ e ∷ []) c d ∙ append_assoc a (e ∷ []) (c ++ d))

-- rows and further tables
abbrev rows_tables : List WrittenRow → List WrittenTable → List Terminal
rows_tables rs ts = flat_map spell_table_row rs ++ flat_map spell_table ts

group_ends : (gs : List WrittenGroup) (rs : List WrittenRow) (ts : List WrittenTable)
    → tell_from (flat_map spell_group gs ++ rows_tables rs ts) state.BucketRead
    ≡ option_map (λ m. told_alone tells.GroupEnds ∷ m) (tell_from (flat_map spell_group gs ++ rows_tables rs ts) state.Groups)
group_ends [] [] [] = refl
group_ends gs rs ts = ended (told_alone tells.GroupEnds) _

groups_tell : (gs : List WrittenGroup) (rs : List WrittenRow) (ts : List WrittenTable) (l : List Telling)
    → tell_from (rows_tables rs ts) state.Groups ≡ Some l
    → tell_from (flat_map spell_group gs ++ rows_tables rs ts) state.Groups ≡ Some (flat_map told_group gs ++ l)
groups_tell [] rs ts l h = h
groups_tell (g ∷ gs) rs ts l h =
    ap (λ us. tell_from us state.Groups) (append_assoc (spell_group g) (flat_map spell_group gs) (rows_tables rs ts))
    ∙ (group_tells g).go (flat_map spell_group gs ++ rows_tables rs ts)
    ∙ ap (option_map (λ m. group_front g ++ m))
    (group_ends gs rs ts ∙ ap (option_map (λ m. told_alone tells.GroupEnds ∷ m)) (groups_tell gs rs ts l h))
    ∙ ap Some (regroup (group_front g) (told_alone tells.GroupEnds) (flat_map told_group gs) l)

-- where no group begins, rows may
from_groups : (rs : List WrittenRow) (ts : List WrittenTable) → tell_from (rows_tables rs ts) state.Groups ≡ tell_from (rows_tables rs ts) state.Rows
from_groups [] [] = refl
from_groups [] (t ∷ ts) = refl
from_groups (r ∷ rs) ts = refl

tables_tell : (ts : List WrittenTable) → tell_from (flat_map spell_table ts) state.Rows ≡ Some (flat_map told_table ts)
tables_tell [] = refl
tables_tell (t ∷ ts) =
    ap (λ o. option_map (λ l. [] ++ l) (option_map (λ l. (told_by_number tells.Table t.switch ∷ []) ++ l) o))
    (ap (λ us. tell_from us state.Groups) (append_assoc (flat_map spell_group t.groups) (flat_map spell_table_row t.rows) (flat_map spell_table ts))
    ∙ groups_tell t.groups t.rows ts (flat_map told_row t.rows ++ flat_map told_table ts)
    (from_groups t.rows ts ∙ (each spell_table_row told_row state.Rows row_tells t.rows).go (flat_map spell_table ts)
    ∙ ap (option_map (λ m. flat_map told_row t.rows ++ m)) (tables_tell ts))
    ∙ ap Some (sym (append_assoc (flat_map told_group t.groups) (flat_map told_row t.rows) (flat_map told_table ts))))

-- where no declaration begins, a table may
from_between : (ts : List WrittenTable) → tell_from (flat_map spell_table ts) state.Between ≡ tell_from (flat_map spell_table ts) state.Rows
from_between [] = refl
from_between (t ∷ ts) = refl

-- ---- declarations

ports_tell : (ps : List Number) → Leads (flat_map spell_port ps) (map (told_by_number tells.Port) ps) state.PortRead state.PortRead
ports_tell [] = nothing state.PortRead
ports_tell (p ∷ ps) =
    next (mark kind.Comma) state.NextPort tells.Nothing refl (next (number p) state.PortRead tells.Port refl (ports_tell ps))

-- a switch and its ports
abbrev switch_front : Number → Number → List Number → List Telling
switch_front n p ps = told_by_number tells.Switch n ∷ told_by_number tells.Port p ∷ map (told_by_number tells.Port) ps

switch_tells : (n p : Number) (ps : List Number) → Leads (spell_table_declaration (declared.Switch n p ps)) (switch_front n p ps) state.Between state.PortRead
switch_tells n p ps =
    next (mark kind.Switch) state.Switch tells.Nothing refl
    (next (number n) state.SwitchNumbered tells.Switch refl
    (next (mark kind.Ports) state.FirstPort tells.Nothing refl
    (next (number p) state.PortRead tells.Port refl (ports_tell ps))))

link_tells : (a m b n : Number) → Leads (spell_table_declaration (declared.Link a m b n)) (told_declaration (declared.Link a m b n)) state.Between state.Between
link_tells a m b n =
    next (mark kind.Link) (state.Link link.Start) tells.Nothing refl
    (next (number a) (state.Link link.Switch) tells.LinkSwitch refl
    (next (mark kind.Colon) (state.Link link.SwitchColon) tells.Nothing refl
    (next (number m) (state.Link link.Port) tells.LinkPort refl
    (next (mark kind.Arrow) (state.Link link.Arrow) tells.Nothing refl
    (next (number b) (state.Link link.ToSwitch) tells.LinkToSwitch refl
    (next (mark kind.Colon) (state.Link link.ToColon) tells.Nothing refl
    (next (number n) state.Between tells.LinkToPort refl (nothing state.Between))))))))

-- declarations and tables
abbrev declarations_tables : List Declaration → List WrittenTable → List Terminal
declarations_tables ds ts = flat_map spell_table_declaration ds ++ flat_map spell_table ts

switch_ends : (ds : List Declaration) (ts : List WrittenTable)
    → tell_from (declarations_tables ds ts) state.PortRead
    ≡ option_map (λ m. told_alone tells.SwitchEnds ∷ m) (tell_from (declarations_tables ds ts) state.Between)
switch_ends [] [] = refl
switch_ends (declared.Field w n ∷ ds) ts = ended (told_alone tells.SwitchEnds) _
switch_ends ds ts = ended (told_alone tells.SwitchEnds) _

-- a declaration that is whole with its last token
declaration_tells : (d : Declaration) (ds : List Declaration) (ts : List WrittenTable)
    → Leads (spell_table_declaration d) (told_declaration d) state.Between state.Between
    → tell_from (declarations_tables ds ts) state.Between ≡ Some (flat_map told_declaration ds ++ flat_map told_table ts)
    → tell_from (declarations_tables (d ∷ ds) ts) state.Between ≡ Some (flat_map told_declaration (d ∷ ds) ++ flat_map told_table ts)
declaration_tells d ds ts one more =
    ap (λ us. tell_from us state.Between) (append_assoc (spell_table_declaration d) (flat_map spell_table_declaration ds) (flat_map spell_table ts))
    ∙ one.go (declarations_tables ds ts) ∙ ap (option_map (λ m. told_declaration d ++ m)) more
    ∙ ap Some (sym (append_assoc (told_declaration d) (flat_map told_declaration ds) (flat_map told_table ts)))

declarations_tell : (ds : List Declaration) (ts : List WrittenTable)
    → tell_from (declarations_tables ds ts) state.Between ≡ Some (flat_map told_declaration ds ++ flat_map told_table ts)
declarations_tell [] ts = from_between ts ∙ tables_tell ts
declarations_tell (declared.Field w n ∷ ds) ts =
    declaration_tells (declared.Field w n) ds ts
    (next (mark kind.Field) state.Field tells.Nothing refl
    (next (name w) state.FieldNamed tells.FieldName refl
    (next (number n) state.Between tells.FieldMax refl (nothing state.Between)))) (declarations_tell ds ts)
declarations_tell (declared.Tag w ∷ ds) ts =
    declaration_tells (declared.Tag w) ds ts
    (next (mark kind.Tag) state.Tag tells.Nothing refl (next (name w) state.Between tells.Tag refl (nothing state.Between)))
    (declarations_tell ds ts)
declarations_tell (declared.Link a m b n ∷ ds) ts =
    declaration_tells (declared.Link a m b n) ds ts (link_tells a m b n) (declarations_tell ds ts)
declarations_tell (declared.Switch n p ps ∷ ds) ts =
    ap (λ us. tell_from us state.Between) (append_assoc (spell_table_declaration (declared.Switch n p ps)) (flat_map spell_table_declaration ds) (flat_map spell_table ts))
    ∙ (switch_tells n p ps).go (declarations_tables ds ts)
    ∙ ap (option_map (λ m. switch_front n p ps ++ m))
    (switch_ends ds ts ∙ ap (option_map (λ m. told_alone tells.SwitchEnds ∷ m)) (declarations_tell ds ts))
    ∙ ap Some (regroup (switch_front n p ps) (told_alone tells.SwitchEnds) (flat_map told_declaration ds) (flat_map told_table ts))

-- ---- a text

text_tells : (x : WrittenTables) → tell_from (spell_text x) state.Start ≡ Some (told_text x)
text_tells x =
    ap (λ o. option_map (λ l. [] ++ l) (option_map (λ l. (told_by_number tells.Version x.version ∷ []) ++ l) o))
    (declarations_tell x.declarations x.tables)

-- tokens that spell a text tell what is written
spelled_tells : (ts : List Token) (x : WrittenTables) → table_terminals ts ≡ spell_text x → tellings_of ts ≡ Some (told_text x)
spelled_tells ts x h = same_tellings ts state.Start ∙ ap (λ us. tell_from us state.Start) h ∙ text_tells x

-- what is told after something is told
map_some : {A B : Type 0} (f : A → B) (o : Option A) (b : B) → option_map f o ≡ Some b → (a : A) × (o ≡ Some a)
map_some f None b e = absurd (none_some b e)
map_some f (Some a) b e = (a, refl)

-- what the states take to an end, the machine takes
accepts : (ts : List Token) (r : Reading) (s : State) → state_of_stage r.stage ≡ s → (l : List Telling) → tellings_from ts s ≡ Some l
    → (x : WrittenTables) × (option_and_then written_at_end (read_table_tokens (table_terminals ts) r) ≡ Some x)
accepts [] r s is l e = found (written_at_end r) (at_end s) ((follows r).1 ∙ ap (λ q. is_some (at_end q)) is) e
  where
    found : (o : Option WrittenTables) (q : Option Tells) → is_some o ≡ is_some q → option_map (λ e. told_by e None) q ≡ Some l
        → (x : WrittenTables) × (o ≡ Some x)
    found (Some x) q a b = (x, refl)
    found None None a b = absurd (none_some l b)
    found None (Some q) a b = absurd cc
accepts (t ∷ ts) r s is l e =
    by_step (read_table_token r (table_terminal_of t)) (after_token s t.kind) ((follows r).0 t ∙ ap (λ q. option_map (λ p. p.0) (after_token q t.kind)) is) e
    (λ q u same m f. accepts ts q u same m f)
  where
    by_step : (o : Option Reading) (q : MaybeStep) → option_map (λ r. state_of_stage r.stage) o ≡ option_map (λ p. p.0) q
        → option_and_then (λ p. option_map (λ l. told_by p.1 (worded (table_terminal_of t)) ++ l) (tellings_from ts p.0)) q ≡ Some l
        → ((r : Reading) (s : State) → state_of_stage r.stage ≡ s → (m : List Telling) → tellings_from ts s ≡ Some m
        → (x : WrittenTables) × (option_and_then written_at_end (read_table_tokens (table_terminals ts) r) ≡ Some x))
        → (x : WrittenTables) × (option_and_then written_at_end (option_and_then (read_table_tokens (table_terminals ts)) o) ≡ Some x)
    by_step None None a b go = absurd (none_some l b)
    by_step None (Some p) a b go = absurd (none_some p.0 a)
    by_step (Some r) None a b go = absurd (none_some (state_of_stage r.stage) (sym a))
    by_step (Some r) (Some p) a b go =
        let told = map_some (λ m. told_by p.1 (worded (table_terminal_of t)) ++ m) (tellings_from ts p.0) l b in
        go r p.0 (some_same (state_of_stage r.stage) p.0 a) told.0 told.1

-- the states take tokens to an end exactly where they spell a text, and tell what is written
pub tells_texts : (ts : List Token) (l : List Telling)
    → (tellings_of ts ≡ Some l) ↔ ((x : WrittenTables) × (table_terminals ts ≡ spell_text x) × (l ≡ told_text x))
tells_texts ts l = (there, λ w. spelled_tells ts w.0 w.1 ∙ ap Some (sym w.2))
  where
    there : tellings_of ts ≡ Some l → (x : WrittenTables) × (table_terminals ts ≡ spell_text x) × (l ≡ told_text x)
    there e =
        let read = accepts ts first_table_reading state.Start refl l e in
        let h : table_terminals ts ≡ spell_text read.0 = subst (IsTableParse ts) (rest_reads ts first_table_reading 1 read.0 read.1) (answers ts) in
        (read.0, h, some_same l (told_text read.0) (sym e ∙ spelled_tells ts read.0 h))
