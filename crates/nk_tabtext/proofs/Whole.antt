-- Read token by token, a text is what it is as a whole.
use Rattle.std.proofs.Common.{◌≡◌, ℕ, List, [], ◌∷◌, refl, sym, ap, subst, ◌∙◌, Option, Some, None}
use Rattle.std.specs.Prelude.{Ok, Err}
use Rattle.std.specs.declared.result.Result.{Result}
use Rattle.std.specs.Ordering.{nat_cmp}
use Rattle.std.specs.BTreeMap.{insert_entry}
use Rattle.nk_lex.specs.declared.token.Token.{Token}
use Rattle.nk_lex.specs.Faults.{and_then}
use Rattle.nk_tabgrammar.specs.declared.written.WrittenTable.{WrittenTable}
use Rattle.nk_tabgrammar.specs.declared.written.WrittenTables.{WrittenTables}
use Rattle.nk_tabgrammar.specs.declared.written.ReadError.{ReadError}
use Rattle.nk_tabgrammar.specs.declared.stage.Place.{Place}
use Rattle.nk_tabgrammar.specs.declared.stage.Place.TheVariants as place
use Rattle.nk_tabgrammar.specs.declared.stage.Owner.{Owner}
use Rattle.nk_tabgrammar.specs.declared.stage.Owner.TheVariants as owner
use Rattle.nk_tabgrammar.specs.declared.stage.Stage.TheVariants as stage
use Rattle.nk_tabgrammar.specs.declared.stage.Grouping.TheVariants as grouping
use Rattle.nk_tabgrammar.specs.declared.stage.InRow.TheVariants as in_row
use Rattle.nk_tabgrammar.specs.Terminal.{table_terminal_of}
use Rattle.nk_tabgrammar.specs.Machine.{next_table_reading, table_reading, with_group, with_table}
use Rattle.nk_tabgrammar.specs.declared.states.BucketState.{BucketState}
use Rattle.nk_tabgrammar.specs.declared.states.State.{State}
use Rattle.nk_tabgrammar.specs.declared.states.Tells.{Tells}
use Rattle.nk_tabgrammar.specs.declared.states.Tells.TheVariants as tells
use Rattle.nk_tabgrammar.specs.States.{MaybeStep, after_token, bucket_state, in_bucket, state_of_stage}
use Rattle.nk_tabtext.specs.Values.{group_of, line_if, unless_at}
use Rattle.nk_tabtext.specs.Progress.{PartialValue, KnownValue, finished, known_after}
use Rattle.nk_tabtext.proofs.AddedParts.{then_assoc}
use Rattle.nk_tabtext.proofs.Stages.{TablesSoFar, so_far, tabled_so, grouped_so, filled_so, group_more}
use Rattle.nk_tabtext.proofs.Fitting.{Closes, Fits, Gives, Groups, Owns, gives_more}
use Rattle.nk_tabtext.proofs.Going.{Both, Follows}
use Rattle.std.specs.Prelude.{is_none}
use Rattle.std.specs.List.{fold}
use Rattle.nk_lex.specs.Spans.{last_line}
use Rattle.nk_table.specs.declared.Tables.{Tables}
use Rattle.nk_declare.specs.Declarations.{DeclaredValue, values_of}
use Rattle.nk_tabgrammar.specs.declared.written.Declaration.TheVariants as declared
use Rattle.nk_tabgrammar.specs.declared.written.ReadError.TheVariants as error
use Rattle.nk_tabgrammar.specs.declared.stage.Stage.{Stage}
use Rattle.nk_tabgrammar.specs.declared.stage.Declaring.TheVariants as declaring
use Rattle.nk_tabgrammar.specs.declared.stage.InRow.{InRow}
use Rattle.nk_tabgrammar.specs.Machine.{Reading, first_table_reading, table_judged, rest_of_text, table_text_ended, with_declaration}
use Rattle.nk_tabgrammar.specs.States.{at_end}
use Rattle.nk_tabtext.specs.Values.{tables_from, whole}
use Rattle.nk_tabtext.specs.Progress.{Progress, ReadsAsWhole, Sound, Faulty, Stopped, read_at_end, end_told, first_table_progress, progress_after, progress_on, step_on, tables_of_progress}
use Rattle.nk_tabtext.proofs.AddedParts.{checked_assoc}
use Rattle.nk_tabtext.proofs.Stages.{declared_so, no_table_more}
use Rattle.nk_tabtext.proofs.Fitting.{Declares, Ported, ports_so}
use Rattle.nk_tabtext.proofs.DeclarationSteps.{step_start, step_version, step_between, step_field, step_named, step_tag, step_switch, step_numbered, step_first_port, step_next_port, step_port, step_link, switch_ends, switch_more, with_ports}
use Rattle.nk_tabtext.proofs.TableSteps.{group_closes, groups_rows, step_bucket_read, step_first_bucket, step_group, step_group_numbered, step_groups, step_rows, step_table, table_closes}
use Rattle.nk_tabtext.proofs.BucketSteps.{step_bucket}
use Rattle.nk_tabtext.proofs.RowSteps.{step_row}

-- one more token, at any stage
pub step : (s : Stage) (x : WrittenTables) (c : WrittenTable) (k : KnownValue) (t : Token) → Fits s x c k
    → Both (Follows k t) (next_table_reading s x c (table_terminal_of t)) (after_token (state_of_stage s) t.kind)
step stage.Start x c k t h = step_start x c k t h
step stage.Version x c k t h = step_version x c k t h
step stage.Between x c k t h = step_between x c k t h
step (stage.Declared declaring.Field) x c k t h = step_field x c k t h
step (stage.Declared (declaring.FieldNamed w)) x c k t h = step_named x c w k t h
step (stage.Declared declaring.Tag) x c k t h = step_tag x c k t h
step (stage.Declared declaring.Switch) x c k t h = step_switch x c k t h
step (stage.Declared (declaring.SwitchNumbered n)) x c k t h = step_numbered x c n k t h
step (stage.Declared (declaring.FirstPort n)) x c k t h = step_first_port x c n k t h
step (stage.Declared (declaring.NextPort n q qs)) x c k t h = step_next_port x c n q qs k t h
step (stage.Declared (declaring.PortRead n q qs)) x c k t h = step_port x c n q qs k t h
step (stage.Declared (declaring.Link q)) x c k t h = step_link x c q k t h
step stage.Table x c k t h = step_table x c k t h
step stage.Groups x c k t h = step_groups x c k t h
step (stage.Grouped grouping.Group) x c k t h = step_group x c k t h
step (stage.Grouped (grouping.GroupNumbered n)) x c k t h = step_group_numbered x c n k t h
step (stage.Grouped (grouping.FirstBucket n)) x c k t h = step_first_bucket x c n k t h
step (stage.Grouped (grouping.BucketRead g)) x c k t h = step_bucket_read x c g k t h
step (stage.InBucket o l) x c k t h = step_bucket x c o l k t h
step stage.Rows x c k t h = step_rows x c k t h
step (stage.InRow r) x c k t h = step_row x c r k t h

-- ---- no token came with which no text goes on

abbrev pub IsGoing : KnownValue → Type 0
IsGoing (Stopped l) = ⊥
IsGoing k = Unit {0}

gives_going : {X : Type 0} (r : Result X ReadError) (R : X → PartialValue → Type 0) (k : KnownValue) → Gives r R k → IsGoing k
gives_going r R (Sound p) h = tt
gives_going r R (Faulty m) h = tt
gives_going (Ok v) R (Stopped l) h = absurd h
gives_going (Err e) R (Stopped l) h = absurd (never e h)
  where
    never : (f : ReadError) → Gives (Err f) R (Stopped l) → ⊥
    never error.NoMemory g = g
    never f g = g

row_going : (r : InRow) (x : WrittenTables) (c : WrittenTable) (k : KnownValue) → Fits (stage.InRow r) x c k → IsGoing k
row_going in_row.Row x c k h = gives_going _ _ k h
row_going r x c k h = gives_going _ _ k h

bucket_going : (o : Owner) (l : Place) (x : WrittenTables) (c : WrittenTable) (k : KnownValue) → Fits (stage.InBucket o l) x c k → IsGoing k
bucket_going o (place.Sets ps) x c k h = gives_going _ _ k h.1
bucket_going o l x c k h = gives_going _ _ k h.1

pub going : (s : Stage) (x : WrittenTables) (c : WrittenTable) (k : KnownValue) → Fits s x c k → IsGoing k
going stage.Start x c k h = subst IsGoing (sym h) tt
going stage.Version x c k h = subst IsGoing (sym h) tt
going (stage.Declared declaring.Field) x c k h = gives_going _ _ k h.1
going stage.Table x c k h = gives_going _ _ k h
going (stage.Grouped grouping.Group) x c k h = gives_going _ _ k h.1
going (stage.InBucket o l) x c k h = bucket_going o l x c k h
going stage.Rows x c k h = gives_going _ _ k h
going (stage.InRow r) x c k h = row_going r x c k h
going s x c k h = gives_going _ _ k h.1

pub goes_on : (k : KnownValue) (p : Progress) (t : Token) → IsGoing k → progress_on k p t ≡ step_on (after_token p.state t.kind) p t
goes_on (Sound q) p t g = refl
goes_on (Faulty l) p t g = refl
goes_on (Stopped l) p t g = absurd g

-- ---- the end

-- what is known after the end
abbrev known_end : Tells → KnownValue → KnownValue
known_end tl (Sound p) = Sound (end_told tl p)
known_end tl k = k

to_end : {X : Type 0} (r : Result X ReadError) (R : X → PartialValue → Type 0) (tl : Tells) (k : KnownValue) → Gives r (λ v p. R v (end_told tl p)) k → Gives r R (known_end tl k)
to_end (Ok v) R tl (Sound p) h = h
to_end (Err (error.TableFault l)) R tl (Faulty m) h = h
to_end r R tl k h = absurd h

-- the tables of what is said
abbrev tables_so : ℕ → TablesSoFar → Result Tables ReadError
tables_so line v = unless_at (line_if (is_none v.said.fields.tag) line) (whole v.said v.tables)

from_so : (line : ℕ) (y : WrittenTables) → tables_from line y ≡ and_then (tabled_so y) (tables_so line)
from_so line y = simp (then_assoc, checked_assoc)

closes_end : (y : WrittenTables) (tl : Tells) (k : KnownValue) (line : ℕ) → Gives (tabled_so y) (λ v p. Closes y v.tables v p) (known_end tl k) → read_at_end k (Some tl) line ≡ tables_from line y
closes_end y tl k line h = on (tabled_so y) k h ∙ sym (from_so line y)
  where
    on : (r : Result TablesSoFar ReadError) (l : KnownValue) → Gives r (λ v p. Closes y v.tables v p) (known_end tl l) → read_at_end l (Some tl) line ≡ and_then r (tables_so line)
    on (Ok v) (Sound p) g =
        ap (λ (s : DeclaredValue). unless_at (line_if (is_none s.fields.tag) line) (whole s (finished (end_told tl p).tables (end_told tl p).filling))) g.said
        ∙ ap (λ ts. unless_at (line_if (is_none v.said.fields.tag) line) (whole v.said ts)) g.tables
    on (Err (error.TableFault m)) (Faulty n) g = ap (λ i. Err (error.TableFault i)) (sym g)
    on r l g = absurd g

no_end : (k : KnownValue) (line : ℕ) → IsGoing k → read_at_end k None line ≡ Err (error.Unexpected line)
no_end (Sound p) line g = refl
no_end (Faulty l) line g = refl
no_end (Stopped l) line g = absurd g

open_bucket : (o : Owner) (at : BucketState) → at_end (in_bucket o at) ≡ None
open_bucket (owner.First n) at = refl
open_bucket (owner.Next g) at = refl
open_bucket (owner.Row q ms) at = refl

declared_end : (x : WrittenTables) (k : KnownValue) → x.tables ≡ [] → Gives (declared_so x) (Declares x) k → Gives (tabled_so x) (λ v p. Closes x v.tables v p) k
declared_end x k e h =
    gives_more (declared_so x) (tabled_so x) (λ v. so_far v.said [] [] [] [] []) (Declares x) (λ v p. Closes x v.tables v p) k (no_table_more x e)
    (λ v p d. record { version = d.version; said = d.said; tables = d.tables; parts = d.parts }) h

ends : (s : Stage) (x : WrittenTables) (c : WrittenTable) (k : KnownValue) (line : ℕ) → Fits s x c k
    → read_at_end k (at_end (state_of_stage s)) line ≡ and_then (table_judged line (table_text_ended s x c)) (λ y. tables_from line y)
ends stage.Between x c k line h = closes_end x tells.Nothing k line (to_end (tabled_so x) (λ v p. Closes x v.tables v p) tells.Nothing k (declared_end x k h.0 h.1))
ends (stage.Declared (declaring.PortRead n q qs)) x c k line h =
    closes_end (with_declaration x (declared.Switch n q qs)) tells.SwitchEnds k line
    (declared_end (with_declaration x (declared.Switch n q qs)) (known_end tells.SwitchEnds k) h.0
    (to_end (declared_so (with_declaration x (declared.Switch n q qs))) (Declares (with_declaration x (declared.Switch n q qs))) tells.SwitchEnds k
    (gives_more (ports_so x n (q ∷ qs)) (declared_so (with_declaration x (declared.Switch n q qs))) (λ v. so_far (with_ports v.said n (values_of (q ∷ qs))) [] [] [] [] [])
    (Ported x n (values_of (q ∷ qs))) (λ v p. Declares (with_declaration x (declared.Switch n q qs)) v (end_told tells.SwitchEnds p)) k (switch_more x n q qs) (λ v p d. switch_ends x n q qs v p d) h.1)))
ends stage.Groups x c k line h =
    closes_end (with_table x c) tells.Nothing k line
    (to_end (tabled_so (with_table x c)) (λ v p. Closes (with_table x c) v.tables v p) tells.Nothing k (table_closes x c k (groups_rows x c k h.0 h.1)))
ends (stage.Grouped (grouping.BucketRead g)) x c k line h =
    closes_end (with_table x (with_group c g)) tells.GroupEnds k line
    (table_closes x (with_group c g) (known_end tells.GroupEnds k) (groups_rows x (with_group c g) (known_end tells.GroupEnds k) h.0
    (to_end (grouped_so x (with_group c g)) (Groups x (with_group c g)) tells.GroupEnds k
    (gives_more (filled_so x c g) (grouped_so x (with_group c g)) (λ v. so_far v.said v.tables (insert_entry nat_cmp v.groups g.number.value (group_of g.number v.buckets)) [] [] [])
    (Owns x c (owner.Next g) []) (λ v p. Groups x (with_group c g) v (end_told tells.GroupEnds p)) k (group_more x c g) (λ v p d. group_closes x c g v p d) h.1))))
ends stage.Rows x c k line h =
    closes_end (with_table x c) tells.Nothing k line (to_end (tabled_so (with_table x c)) (λ v p. Closes (with_table x c) v.tables v p) tells.Nothing k (table_closes x c k h))
ends (stage.InBucket o l) x c k line h =
    ap (λ e. read_at_end k e line) (open_bucket o (bucket_state l)) ∙ no_end k line (going (stage.InBucket o l) x c k h)
ends stage.Start x c k line h = no_end k line (going stage.Start x c k h)
ends stage.Version x c k line h = no_end k line (going stage.Version x c k h)
ends stage.Table x c k line h = no_end k line (going stage.Table x c k h)
ends (stage.Declared declaring.Field) x c k line h = no_end k line (going (stage.Declared declaring.Field) x c k h)
ends (stage.Declared (declaring.FieldNamed w)) x c k line h = no_end k line (going (stage.Declared (declaring.FieldNamed w)) x c k h)
ends (stage.Declared declaring.Tag) x c k line h = no_end k line (going (stage.Declared declaring.Tag) x c k h)
ends (stage.Declared declaring.Switch) x c k line h = no_end k line (going (stage.Declared declaring.Switch) x c k h)
ends (stage.Declared (declaring.SwitchNumbered n)) x c k line h = no_end k line (going (stage.Declared (declaring.SwitchNumbered n)) x c k h)
ends (stage.Declared (declaring.FirstPort n)) x c k line h = no_end k line (going (stage.Declared (declaring.FirstPort n)) x c k h)
ends (stage.Declared (declaring.NextPort n q qs)) x c k line h = no_end k line (going (stage.Declared (declaring.NextPort n q qs)) x c k h)
ends (stage.Declared (declaring.Link q)) x c k line h = no_end k line (going (stage.Declared (declaring.Link q)) x c k h)
ends (stage.Grouped grouping.Group) x c k line h = no_end k line (going (stage.Grouped grouping.Group) x c k h)
ends (stage.Grouped (grouping.GroupNumbered n)) x c k line h = no_end k line (going (stage.Grouped (grouping.GroupNumbered n)) x c k h)
ends (stage.Grouped (grouping.FirstBucket n)) x c k line h = no_end k line (going (stage.Grouped (grouping.FirstBucket n)) x c k h)
ends (stage.InRow in_row.Row) x c k line h = no_end k line (going (stage.InRow in_row.Row) x c k h)
ends (stage.InRow (in_row.RowNumbered q)) x c k line h = no_end k line (going (stage.InRow (in_row.RowNumbered q)) x c k h)
ends (stage.InRow (in_row.Matches q ms)) x c k line h = no_end k line (going (stage.InRow (in_row.Matches q ms)) x c k h)
ends (stage.InRow (in_row.MatchNamed q ms w)) x c k line h = no_end k line (going (stage.InRow (in_row.MatchNamed q ms w)) x c k h)
ends (stage.InRow (in_row.MatchTested q ms w)) x c k line h = no_end k line (going (stage.InRow (in_row.MatchTested q ms w)) x c k h)
ends (stage.InRow (in_row.MatchValued q ms w n)) x c k line h = no_end k line (going (stage.InRow (in_row.MatchValued q ms w n)) x c k h)
ends (stage.InRow (in_row.MatchSlashed q ms w n)) x c k line h = no_end k line (going (stage.InRow (in_row.MatchSlashed q ms w n)) x c k h)
ends (stage.InRow (in_row.Target q ms)) x c k line h = no_end k line (going (stage.InRow (in_row.Target q ms)) x c k h)
ends (stage.InRow (in_row.TargetGroup q ms)) x c k line h = no_end k line (going (stage.InRow (in_row.TargetGroup q ms)) x c k h)

-- ---- the whole

abbrev pub at_place : State → ℕ → KnownValue → Progress
at_place s line k = record { state = s; line = line; known = k }

stays_stopped : (ts : List Token) (s : State) (line l : ℕ) → tables_of_progress (fold progress_after (at_place s line (Stopped l)) ts) ≡ Err (error.Unexpected l)
stays_stopped [] s line l = refl
stays_stopped (t ∷ ts) s line l = stays_stopped ts s line l

from_here : (ts : List Token) (s : Stage) (x : WrittenTables) (c : WrittenTable) (k : KnownValue) (line : ℕ) → Fits s x c k
    → tables_of_progress (fold progress_after (at_place (state_of_stage s) line k) ts) ≡ and_then (rest_of_text ts (table_reading s x c) line) (λ y. tables_from (last_line line ts) y)
from_here [] s x c k line h = ends s x c k line h
from_here (t ∷ ts) s x c k line h =
    ap (λ p. tables_of_progress (fold progress_after p ts)) (goes_on k (at_place (state_of_stage s) line k) t (going s x c k h))
    ∙ by (next_table_reading s x c (table_terminal_of t)) (after_token (state_of_stage s) t.kind) (λ r l f. from_here ts r.stage r.text r.table l t.line f) (step s x c k t h)
  where
    by : (r : Option Reading) (z : MaybeStep)
        → ((r : Reading) (l : KnownValue) → Fits r.stage r.text r.table l
        → tables_of_progress (fold progress_after (at_place (state_of_stage r.stage) t.line l) ts) ≡ and_then (rest_of_text ts r t.line) (λ y. tables_from (last_line t.line ts) y))
        → Both (Follows k t) r z
        → tables_of_progress (fold progress_after (step_on z (at_place (state_of_stage s) line k) t) ts)
        ≡ and_then (and_then (table_judged t.line r) (λ u. rest_of_text ts u t.line)) (λ y. tables_from (last_line t.line ts) y)
    by None None ih b = stays_stopped ts (state_of_stage s) line t.line
    by (Some r) (Some z) ih b =
        ap (λ a. tables_of_progress (fold progress_after (at_place a t.line (known_after k z.1 t)) ts)) b.0 ∙ ih r (known_after k z.1 t) b.1
    by None (Some z) ih b = absurd b
    by (Some r) None ih b = absurd b

pub reads_as_whole : ReadsAsWhole
reads_as_whole ts = from_here ts first_table_reading.stage first_table_reading.text first_table_reading.table first_table_progress.known 1 refl
