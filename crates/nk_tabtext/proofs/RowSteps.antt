-- One more token, where a row is read.
use Rattle.std.proofs.Common.{ℕ, List, [], ◌∷◌, ◌++◌, refl, sym, ap, subst, ◌∙◌, Some, None}
use Rattle.std.specs.Prelude.{Ok, ◌==◌, if◌then◌else◌, not}
use Rattle.nk_lex.specs.declared.kind.Kind.{Kind}
use Rattle.nk_lex.specs.declared.kind.Kind.TheVariants as kind
use Rattle.nk_lex.specs.declared.token.Token.{Token}
use Rattle.nk_lex.specs.declared.ident.Ident.{Ident}
use Rattle.nk_lex.specs.declared.ident.Number.{Number}
use Rattle.nk_lex.specs.Faults.{first_of}
use Rattle.nk_prefix.specs.Prefix.{digits_of}
use Rattle.nk_table.specs.declared.Target.TheVariants as does
use Rattle.nk_declare.specs.Declarations.{place_of_field, most_in}
use Rattle.nk_tabgrammar.specs.declared.written.WrittenMatch.{WrittenMatch}
use Rattle.nk_tabgrammar.specs.declared.written.WrittenTarget.TheVariants as target
use Rattle.nk_tabgrammar.specs.declared.written.WrittenTable.{WrittenTable}
use Rattle.nk_tabgrammar.specs.declared.written.WrittenTables.{WrittenTables}
use Rattle.nk_tabgrammar.specs.declared.stage.Place.TheVariants as place
use Rattle.nk_tabgrammar.specs.declared.stage.Owner.TheVariants as owner
use Rattle.nk_tabgrammar.specs.declared.stage.Stage.TheVariants as stage
use Rattle.nk_tabgrammar.specs.declared.stage.InRow.{InRow}
use Rattle.nk_tabgrammar.specs.declared.stage.InRow.TheVariants as in_row
use Rattle.nk_tabgrammar.specs.Terminal.{mark, kind_place, table_terminal_of}
use Rattle.nk_tabgrammar.specs.Machine.{begin_match, next_table_reading, table_reading, row_written, with_table_match, with_table_row}
use Rattle.nk_tabgrammar.specs.declared.states.BucketState.TheVariants as bucket
use Rattle.nk_tabgrammar.specs.declared.states.RowState.TheVariants as row
use Rattle.nk_tabgrammar.specs.declared.states.State.TheVariants as state
use Rattle.nk_tabgrammar.specs.declared.states.Tells.TheVariants as tells
use Rattle.nk_tabgrammar.specs.States as states
use Rattle.nk_tabgrammar.specs.States.{after_token, state_of_stage}
use Rattle.nk_tabtext.specs.Values.{FaultLine, digits_in, has_key, length_fault, line_above, line_if, ones_fault, placed_match, row_with}
use Rattle.nk_tabtext.specs.Progress.{row_drop_told, KnownValue, known_after, match_set, number_of_token, row_ends, word_of_token}
use Rattle.nk_tabtext.proofs.Stages.{so_far, with_matches, rowed_so, matched_so, called_so, tested_so, is_matched, word_fault, row_more_group, row_more_drop, match_more, match_more_length}
use Rattle.nk_tabtext.proofs.Fitting.{Fits, Gives, IsField, Matches, Rows, Tested, gives_filling, gives_on, gives_still, gives_with}
use Rattle.nk_tabtext.proofs.Going.{Both, Follows, IsMark, both_if, both_last, by_token, none_if, none_then}
use Rattle.nk_tabtext.proofs.TableSteps.{bucket_opens, checked_ok, opens_still, rows_same}

-- ---- matches

-- the name of a match
name_gives : (x : WrittenTables) (c : WrittenTable) (q : Number) (ms : List WrittenMatch) (k : KnownValue) (t : Token) → Gives (matched_so x c q ms) (Matches x c q) k
    → Gives (called_so x c q ms (word_of_token t)) (λ v p. Matches x c q v p × IsField (word_of_token t) v p) (known_after k tells.MatchName t)
name_gives x c q ms k t h =
    gives_on (matched_so x c q ms) (called_so x c q ms (word_of_token t)) (λ v. checked_ok (word_fault v.said.fields 1 (is_matched v.matches) (word_of_token t)) v)
    (Matches x c q) (λ v p. Matches x c q v p × IsField (word_of_token t) v p) k tells.MatchName t refl
    (λ v p d. gives_filling (λ v p. Matches x c q v p × IsField (word_of_token t) v p) (word_fault v.said.fields 1 (is_matched v.matches) (word_of_token t))
    (word_fault p.declaring.said.fields 1 (is_matched p.filling.matches) (word_of_token t)) v p
    (record p.filling { field = place_of_field p.declaring.said.fields (word_of_token t); max = most_in p.declaring.said.fields (word_of_token t) })
    (ap (λ s. word_fault s.fields 1 (is_matched v.matches) (word_of_token t)) (sym d.0.said) ∙ ap (λ l. word_fault p.declaring.said.fields 1 (is_matched l) (word_of_token t)) (sym d.1.matches)) (
      (
        opens_still x c c v.rows v.rows v v p (record p.filling { field = place_of_field p.declaring.said.fields (word_of_token t); max = most_in p.declaring.said.fields (word_of_token t) }) d.0 refl refl refl refl d.0.groups d.0.rows,
        record { buckets = d.1.buckets; matches = d.1.matches; sets = d.1.sets },
        d.2,
      ),
      (ap (λ s. place_of_field s.fields (word_of_token t)) d.0.said, ap (λ s. most_in s.fields (word_of_token t)) d.0.said),
    )) h

-- a match or the arrow, by a mark
marks_begin : (x : WrittenTables) (c : WrittenTable) (q : Number) (ms : List WrittenMatch) (k : KnownValue) (t : Token) (l : Kind) → IsMark l → Gives (matched_so x c q ms) (Matches x c q) k
    → Both (Follows k t) (begin_match x c q ms (mark l)) (states.begin_match l)
marks_begin x c q ms k t l m h =
    none_then (Follows k t) (kind_place kind.Name == kind_place l) (state.Row row.Named, tells.MatchName) (begin_match x c q ms (mark l))
    (if kind_place kind.Arrow == kind_place l then Some (state.Row row.Target, tells.Nothing) else None) m.named
    (both_last (Follows k t) (kind_place kind.Arrow == kind_place l) (table_reading (stage.InRow (in_row.Target q ms)) x c) (state.Row row.Target, tells.Nothing)
    (refl, gives_still (matched_so x c q ms) (Matches x c q) (Matches x c q) k t (λ v p d. d) h))

-- a match without a length is whole
exact : (x : WrittenTables) (c : WrittenTable) (q : Number) (ms : List WrittenMatch) (w : Ident) (n : Number) (k : KnownValue) → Gives (tested_so x c q ms w n) (Tested x c q w n) k
    → Gives (matched_so x c q (with_table_match ms w n None)) (Matches x c q) k
exact x c q ms w n k h =
    subst (λ r. Gives r (Matches x c q) k) (sym (match_more x c q ms w n)) (gives_with (tested_so x c q ms w n) (Tested x c q w n) (Matches x c q) k (λ v p d. d.0) h)

-- the value of a match
value_gives : (x : WrittenTables) (c : WrittenTable) (q : Number) (ms : List WrittenMatch) (w : Ident) (k : KnownValue) (t : Token)
    → Gives (called_so x c q ms w) (λ v p. Matches x c q v p × IsField w v p) k
    → Gives (tested_so x c q ms w (number_of_token t)) (Tested x c q w (number_of_token t)) (known_after k tells.MatchValue t)
value_gives x c q ms w k t h =
    gives_on (called_so x c q ms w) (tested_so x c q ms w (number_of_token t))
    (λ v. checked_ok (line_above (most_in v.said.fields w) (number_of_token t)) (with_matches v (placed_match (place_of_field v.said.fields w, t.value, digits_in v.said.fields w) v.matches)))
    (λ v p. Matches x c q v p × IsField w v p) (Tested x c q w (number_of_token t)) k tells.MatchValue t refl
    (λ v p d. gives_filling (Tested x c q w (number_of_token t)) (line_above (most_in v.said.fields w) (number_of_token t)) (line_above p.filling.max (number_of_token t))
    (with_matches v (placed_match (place_of_field v.said.fields w, t.value, digits_in v.said.fields w) v.matches)) p
    (record p.filling { matches = placed_match (p.filling.field, t.value, digits_of p.filling.max) p.filling.matches; value = number_of_token t })
    (ap (λ n. line_above n (number_of_token t)) (sym d.1.1)) (
      (
        opens_still x c c v.rows v.rows v (with_matches v (placed_match (place_of_field v.said.fields w, t.value, digits_in v.said.fields w) v.matches)) p
            (record p.filling { matches = placed_match (p.filling.field, t.value, digits_of p.filling.max) p.filling.matches; value = number_of_token t }) d.0.0 refl refl refl refl d.0.0.groups d.0.0.rows,
        record {
          buckets = d.0.1.buckets;
          matches =
              ap (λ f. placed_match (f, t.value, digits_of p.filling.max) p.filling.matches) d.1.0
              ∙ ap (λ n. placed_match (place_of_field v.said.fields w, t.value, digits_of n) p.filling.matches) d.1.1
              ∙ ap (λ l. placed_match (place_of_field v.said.fields w, t.value, digits_in v.said.fields w) l) d.0.1.matches;
          sets = d.0.1.sets;
        },
        d.0.2,
      ),
      d.1,
      refl,
    )) h

-- the length of a match
length_gives : (x : WrittenTables) (c : WrittenTable) (q : Number) (ms : List WrittenMatch) (w : Ident) (n : Number) (k : KnownValue) (t : Token)
    → Gives (tested_so x c q ms w n) (Tested x c q w n) k
    → Gives (matched_so x c q (with_table_match ms w n (Some (number_of_token t)))) (Matches x c q) (known_after k tells.MatchLength t)
length_gives x c q ms w n k t h =
    gives_on (tested_so x c q ms w n) (matched_so x c q (with_table_match ms w n (Some (number_of_token t))))
    (λ v. checked_ok (wrong x.version.value (digits_in v.said.fields w) n) (with_matches v (match_set (place_of_field v.said.fields w, n.value, t.value) v.matches)))
    (Tested x c q w n) (Matches x c q) k tells.MatchLength t (match_more_length x c q ms w n (number_of_token t))
    (λ v p d. gives_filling (Matches x c q) (wrong x.version.value (digits_in v.said.fields w) n) (wrong p.version (digits_of p.filling.max) p.filling.value)
    (with_matches v (match_set (place_of_field v.said.fields w, n.value, t.value) v.matches)) p
    (record p.filling { matches = match_set (p.filling.field, p.filling.value.value, t.value) p.filling.matches })
    (ap (λ m. wrong m (digits_in v.said.fields w) n) (sym d.0.0.version) ∙ ap (λ m. wrong p.version (digits_of m) n) (sym d.1.1) ∙ ap (λ m. wrong p.version (digits_of p.filling.max) m) (sym d.2)) (
      opens_still x c c v.rows v.rows v (with_matches v (match_set (place_of_field v.said.fields w, n.value, t.value) v.matches)) p
          (record p.filling { matches = match_set (p.filling.field, p.filling.value.value, t.value) p.filling.matches }) d.0.0 refl refl refl refl d.0.0.groups d.0.0.rows,
      record {
        buckets = d.0.1.buckets;
        matches =
            ap (λ f. match_set (f, p.filling.value.value, t.value) p.filling.matches) d.1.0
            ∙ ap (λ m. match_set (place_of_field v.said.fields w, m.value, t.value) p.filling.matches) d.2
            ∙ ap (λ l. match_set (place_of_field v.said.fields w, n.value, t.value) l) d.0.1.matches;
        sets = d.0.1.sets;
      },
      d.0.2,
    )) h
  where
    wrong : ℕ → ℕ → Number → FaultLine
    wrong version digits m = first_of (length_fault version digits (Some (number_of_token t))) (ones_fault digits t.value m)

-- ---- targets

group_gives : (x : WrittenTables) (c : WrittenTable) (q : Number) (ms : List WrittenMatch) (k : KnownValue) (t : Token) → Gives (matched_so x c q ms) (Matches x c q) k
    → Gives (rowed_so x (with_table_row c (row_written q ms (target.Group (number_of_token t))))) (Rows x (with_table_row c (row_written q ms (target.Group (number_of_token t))))) (known_after k tells.RowGroup t)
group_gives x c q ms k t h =
    gives_on (matched_so x c q ms) (rowed_so x (with_table_row c (row_written q ms (target.Group (number_of_token t)))))
    (λ v. checked_ok (line_if (not (has_key v.groups t.value)) t.line) (so_far v.said v.tables v.groups (v.rows ++ row_with q v.matches (does.Group t.value) ∷ []) [] []))
    (Matches x c q) (Rows x (with_table_row c (row_written q ms (target.Group (number_of_token t))))) k tells.RowGroup t (row_more_group x c q ms (number_of_token t))
    (λ v p d. gives_filling (Rows x (with_table_row c (row_written q ms (target.Group (number_of_token t))))) (line_if (not (has_key v.groups t.value)) t.line) (line_if (not (has_key p.filling.groups t.value)) t.line)
    (so_far v.said v.tables v.groups (v.rows ++ row_with q v.matches (does.Group t.value) ∷ []) [] []) p (row_ends p.filling (does.Group t.value))
    (ap (λ l. line_if (not (has_key l t.value)) t.line) (sym d.0.groups)) (
      opens_still x c (with_table_row c (row_written q ms (target.Group (number_of_token t)))) v.rows (v.rows ++ row_with q v.matches (does.Group t.value) ∷ []) v
          (so_far v.said v.tables v.groups (v.rows ++ row_with q v.matches (does.Group t.value) ∷ []) [] []) p (row_ends p.filling (does.Group t.value)) d.0 refl refl refl refl d.0.groups
          (rows_same v.rows q.value v.matches (does.Group t.value) p.filling (does.Group t.value) d.0.rows d.2 d.1.matches refl),
      record { buckets = d.1.buckets; matches = refl; sets = d.1.sets },
    )) h

drop_gives : (x : WrittenTables) (c : WrittenTable) (q : Number) (ms : List WrittenMatch) (k : KnownValue) (t : Token) → Gives (matched_so x c q ms) (Matches x c q) k
    → Gives (rowed_so x (with_table_row c (row_written q ms target.Discard))) (Rows x (with_table_row c (row_written q ms target.Discard))) (known_after k tells.RowDrop t)
drop_gives x c q ms k t h =
    gives_on (matched_so x c q ms) (rowed_so x (with_table_row c (row_written q ms target.Discard))) (λ v. Ok (so_far v.said v.tables v.groups (v.rows ++ row_with q v.matches does.Discard ∷ []) [] []))
    (Matches x c q) (Rows x (with_table_row c (row_written q ms target.Discard))) k tells.RowDrop t (row_more_drop x c q ms)
    (λ v p d. (
      opens_still x c (with_table_row c (row_written q ms target.Discard)) v.rows (v.rows ++ row_with q v.matches does.Discard ∷ []) v
          (so_far v.said v.tables v.groups (v.rows ++ row_with q v.matches does.Discard ∷ []) [] []) p (row_drop_told p.filling) d.0 refl refl refl refl d.0.groups
          (rows_same v.rows q.value v.matches does.Discard p.filling does.Discard d.0.rows d.2 d.1.matches refl),
      record { buckets = d.1.buckets; matches = refl; sets = d.1.sets },
    )) h

-- ---- all of it

priority_gives : (x : WrittenTables) (c : WrittenTable) (k : KnownValue) (t : Token) → Gives (rowed_so x c) (Rows x c) k
    → Gives (matched_so x c (number_of_token t) []) (Matches x c (number_of_token t)) (known_after k tells.Row t)
priority_gives x c k t h =
    gives_on (rowed_so x c) (matched_so x c (number_of_token t) []) (λ v. checked_ok (line_above 65535 (number_of_token t)) (so_far v.said v.tables v.groups v.rows [] []))
    (Rows x c) (Matches x c (number_of_token t)) k tells.Row t refl
    (λ v p d. gives_filling (Matches x c (number_of_token t)) (line_above 65535 (number_of_token t)) (line_above 65535 (number_of_token t)) (so_far v.said v.tables v.groups v.rows [] []) p (record p.filling { priority = t.value }) refl (
      opens_still x c c v.rows v.rows v (so_far v.said v.tables v.groups v.rows [] []) p (record p.filling { priority = t.value }) d.0 refl refl refl refl d.0.groups d.0.rows,
      record { buckets = d.1.buckets; matches = d.1.matches; sets = d.1.sets },
      refl,
    )) h

pub step_row : (x : WrittenTables) (c : WrittenTable) (r : InRow) (k : KnownValue) (t : Token) → Fits (stage.InRow r) x c k
    → Both (Follows k t) (next_table_reading (stage.InRow r) x c (table_terminal_of t)) (after_token (state_of_stage (stage.InRow r)) t.kind)
step_row x c in_row.Row k t h =
    by_token (Follows k t) (next_table_reading (stage.InRow in_row.Row) x c) (after_token (state.Row row.Row)) t tt (refl, priority_gives x c k t h)
    (λ l m. none_if (Follows k t) _ _ m.numbered)
step_row x c (in_row.RowNumbered q) k t h =
    by_token (Follows k t) (next_table_reading (stage.InRow (in_row.RowNumbered q)) x c) (after_token (state.Row row.Numbered)) t tt tt
    (λ l m. both_last (Follows k t) (kind_place kind.Colon == kind_place l) (table_reading (stage.InRow (in_row.Matches q [])) x c) (state.Row row.Matches, tells.Nothing)
    (refl, gives_still (matched_so x c q []) (Matches x c q) (Matches x c q) k t (λ v p d. d) h))
step_row x c (in_row.Matches q ms) k t h =
    by_token (Follows k t) (next_table_reading (stage.InRow (in_row.Matches q ms)) x c) (after_token (state.Row row.Matches)) t (refl, name_gives x c q ms k t h) tt
    (λ l m. marks_begin x c q ms k t l m h)
step_row x c (in_row.MatchNamed q ms w) k t h =
    by_token (Follows k t) (next_table_reading (stage.InRow (in_row.MatchNamed q ms w)) x c) (after_token (state.Row row.Named)) t tt tt
    (λ l m. both_last (Follows k t) (kind_place kind.Equal == kind_place l) (table_reading (stage.InRow (in_row.MatchTested q ms w)) x c) (state.Row row.Tested, tells.Nothing)
    (refl, gives_still (called_so x c q ms w) (λ v p. Matches x c q v p × IsField w v p) (λ v p. Matches x c q v p × IsField w v p) k t (λ v p d. d) h))
step_row x c (in_row.MatchTested q ms w) k t h =
    by_token (Follows k t) (next_table_reading (stage.InRow (in_row.MatchTested q ms w)) x c) (after_token (state.Row row.Tested)) t tt (refl, value_gives x c q ms w k t h)
    (λ l m. none_if (Follows k t) _ _ m.numbered)
step_row x c (in_row.MatchValued q ms w n) k t h =
    by_token (Follows k t) (next_table_reading (stage.InRow (in_row.MatchValued q ms w n)) x c) (after_token (state.Row row.Valued)) t
    (refl, name_gives x c q (with_table_match ms w n None) k t (exact x c q ms w n k h)) tt
    (λ l m. both_if (Follows k t) (kind_place kind.Slash == kind_place l) (table_reading (stage.InRow (in_row.MatchSlashed q ms w n)) x c) (state.Row row.Slashed, tells.Nothing) _ _
    (refl, gives_still (tested_so x c q ms w n) (Tested x c q w n) (Tested x c q w n) k t (λ v p d. d) h)
    (marks_begin x c q (with_table_match ms w n None) k t l m (exact x c q ms w n k h)))
step_row x c (in_row.MatchSlashed q ms w n) k t h =
    by_token (Follows k t) (next_table_reading (stage.InRow (in_row.MatchSlashed q ms w n)) x c) (after_token (state.Row row.Slashed)) t tt (refl, length_gives x c q ms w n k t h)
    (λ l m. none_if (Follows k t) _ _ m.numbered)
step_row x c (in_row.Target q ms) k t h =
    by_token (Follows k t) (next_table_reading (stage.InRow (in_row.Target q ms)) x c) (after_token (state.Row row.Target)) t tt tt
    (λ l m. both_if (Follows k t) (kind_place kind.OpenBracket == kind_place l) (table_reading (stage.InBucket (owner.Row q ms) (place.Sets [])) x c) (state.InRow bucket.Sets, tells.Nothing) _ _
    (refl, (tt, bucket_opens x c (owner.Row q ms) k t h))
    (both_if (Follows k t) (kind_place kind.Group == kind_place l) (table_reading (stage.InRow (in_row.TargetGroup q ms)) x c) (state.Row row.TargetGroup, tells.Nothing) _ _
    (refl, gives_still (matched_so x c q ms) (Matches x c q) (Matches x c q) k t (λ v p d. d) h)
    (both_last (Follows k t) (kind_place kind.Drop == kind_place l) (table_reading stage.Rows x (with_table_row c (row_written q ms target.Discard))) (state.Rows, tells.RowDrop)
    (refl, drop_gives x c q ms k t h))))
step_row x c (in_row.TargetGroup q ms) k t h =
    by_token (Follows k t) (next_table_reading (stage.InRow (in_row.TargetGroup q ms)) x c) (after_token (state.Row row.TargetGroup)) t tt (refl, group_gives x c q ms k t h)
    (λ l m. none_if (Follows k t) _ _ m.numbered)
