-- One more token, where a bucket is read.
use Rattle.std.proofs.Common.{◌≡◌, ℕ, List, [], ◌∷◌, ◌++◌, refl, sym, ap, subst, ◌∙◌, Some, None}
use Rattle.std.specs.Prelude.{Ok, ◌==◌, if◌then◌else◌, option_map}
use Rattle.nk_lex.specs.declared.kind.Kind.{Kind}
use Rattle.nk_lex.specs.declared.kind.Kind.TheVariants as kind
use Rattle.nk_lex.specs.declared.token.Token.{Token}
use Rattle.nk_lex.specs.declared.ident.Ident.{Ident}
use Rattle.nk_field.specs.Act.{act_then}
use Rattle.nk_table.specs.declared.Bucket.{Bucket}
use Rattle.nk_table.specs.declared.Exit.{Exit}
use Rattle.nk_table.specs.declared.Exit.TheVariants as exit
use Rattle.nk_table.specs.declared.Target.TheVariants as does
use Rattle.nk_declare.specs.Declarations.{place_of_field, most_in}
use Rattle.nk_tabgrammar.specs.declared.written.Pair.{Pair}
use Rattle.nk_tabgrammar.specs.declared.written.Way.{Way}
use Rattle.nk_tabgrammar.specs.declared.written.Way.TheVariants as way
use Rattle.nk_tabgrammar.specs.declared.written.WrittenTarget.TheVariants as target
use Rattle.nk_tabgrammar.specs.declared.written.WrittenTable.{WrittenTable}
use Rattle.nk_tabgrammar.specs.declared.written.WrittenTables.{WrittenTables}
use Rattle.nk_tabgrammar.specs.declared.stage.Place.{Place}
use Rattle.nk_tabgrammar.specs.declared.stage.Place.TheVariants as place
use Rattle.nk_tabgrammar.specs.declared.stage.PlaceNext.TheVariants as then_place
use Rattle.nk_tabgrammar.specs.declared.stage.Owner.{Owner}
use Rattle.nk_tabgrammar.specs.declared.stage.Owner.TheVariants as owner
use Rattle.nk_tabgrammar.specs.declared.stage.Stage.TheVariants as stage
use Rattle.nk_tabgrammar.specs.Terminal.{mark, kind_place, table_terminal_of}
use Rattle.nk_tabgrammar.specs.Machine.{bucket_done, bucket_on, next_table_reading, row_written, with_table_row}
use Rattle.nk_tabgrammar.specs.declared.states.BucketState.{BucketState}
use Rattle.nk_tabgrammar.specs.declared.states.BucketState.TheVariants as bucket
use Rattle.nk_tabgrammar.specs.declared.states.State.{State}
use Rattle.nk_tabgrammar.specs.declared.states.State.TheVariants as state
use Rattle.nk_tabgrammar.specs.declared.states.Tells.{Tells}
use Rattle.nk_tabgrammar.specs.declared.states.Tells.TheVariants as tells
use Rattle.nk_tabgrammar.specs.States.{MaybeStep, after_token, after_in, bucket_state, in_bucket, or_else, state_of_stage}
use Rattle.nk_tabtext.specs.Values.{bucket_with, line_above, row_with}
use Rattle.nk_tabtext.specs.Progress.{group_bucket_told, row_bucket_told, out_back_told, FillingValue, PartialValue, KnownValue, number_of_token, word_of_token}
use Rattle.nk_tabtext.proofs.AddedParts.{then_same, unless_assoc}
use Rattle.nk_tabtext.proofs.Stages.{TablesSoFar, so_far, with_sets, rowed_so, filled_so, assigned_so, named_so, left_so, is_assigned, word_fault, row_more_bucket, first_bucket_more, bucket_more, pair_more}
use Rattle.nk_tabtext.proofs.Fitting.{Fits, IsField, Owns, Rows, gives_filling, gives_on, gives_still}
use Rattle.nk_tabtext.proofs.Going.{Both, Follows, both_through, by_token, none_through}
use Rattle.nk_tabtext.proofs.TableSteps.{checked_ok, opens_still, owns_sets, owns_still, rows_same}

-- where a bucket's owner goes on after it, and what its bracket tells
abbrev whole_of : Owner → State
whole_of (owner.First n) = state.BucketRead
whole_of (owner.Next g) = state.BucketRead
whole_of (owner.Row q ms) = state.Rows

abbrev tells_of : Owner → Tells
tells_of (owner.First n) = tells.GroupBucket
tells_of (owner.Next g) = tells.GroupBucket
tells_of (owner.Row q ms) = tells.RowBucket

abbrev after_bucket : Owner → BucketState → Kind → MaybeStep
after_bucket o at l = after_in (in_bucket o) (whole_of o) (tells_of o) at l

is_after : (o : Owner) (at : BucketState) (l : Kind) → after_token (in_bucket o at) l ≡ after_bucket o at l
is_after (owner.First n) at l = refl
is_after (owner.Next g) at l = refl
is_after (owner.Row q ms) at l = refl

-- the state after a part of the bucket
abbrev at_part : Owner → BucketState × Tells → State × Tells
at_part o p = (in_bucket o p.0, p.1)

owns_said : (x : WrittenTables) (c : WrittenTable) (o : Owner) (ss : List (ℕ × ℕ)) (v : TablesSoFar) (p : PartialValue) → Owns x c o ss v p → p.declaring.said ≡ v.said
owns_said x c (owner.First n) ss v p h = h.0.said
owns_said x c (owner.Next g) ss v p h = h.0.said
owns_said x c (owner.Row q ms) ss v p h = h.0.said

-- ---- assignments

step_sets : (x : WrittenTables) (c : WrittenTable) (o : Owner) (ps : List Pair) (k : KnownValue) (t : Token) → Fits (stage.InBucket o (place.Sets ps)) x c k
    → Both (Follows k t) (next_table_reading (stage.InBucket o (place.Sets ps)) x c (table_terminal_of t)) (after_bucket o bucket.Sets t.kind)
step_sets x c o ps k t h =
    by_token (Follows k t) (next_table_reading (stage.InBucket o (place.Sets ps)) x c) (after_bucket o bucket.Sets) t (
      refl,
      (
        h.0,
        gives_on (assigned_so x c o ps) (named_so x c o ps (word_of_token t)) (λ v. checked_ok (word_fault v.said.fields 2 (is_assigned v.sets) (word_of_token t)) v)
            (λ v p. Owns x c o v.sets v p) (λ v p. Owns x c o v.sets v p × IsField (word_of_token t) v p) k tells.SetName t refl
            (λ v p d. gives_filling (λ v p. Owns x c o v.sets v p × IsField (word_of_token t) v p) (word_fault v.said.fields 2 (is_assigned v.sets) (word_of_token t))
            (word_fault p.declaring.said.fields 2 (is_assigned p.filling.sets) (word_of_token t)) v p
            (record p.filling { field = place_of_field p.declaring.said.fields (word_of_token t); max = most_in p.declaring.said.fields (word_of_token t) })
            (ap (λ s. word_fault s.fields 2 (is_assigned v.sets) (word_of_token t)) (sym (owns_said x c o v.sets v p d))
            ∙ ap (λ l. word_fault p.declaring.said.fields 2 (is_assigned l) (word_of_token t)) (sym (owns_sets x c o v.sets v p d))) (
              owns_still x c o v.sets v.sets v.out v p (record p.filling { field = place_of_field p.declaring.said.fields (word_of_token t); max = most_in p.declaring.said.fields (word_of_token t) }) d
                  (record { switch = refl; groups = refl; rows = refl; number = refl; buckets = refl; priority = refl; matches = refl }) (owns_sets x c o v.sets v p d),
              (ap (λ s. place_of_field s.fields (word_of_token t)) (owns_said x c o v.sets v p d), ap (λ s. most_in s.fields (word_of_token t)) (owns_said x c o v.sets v p d)),
            )) h.1,
      ),
    )
    tt
    (λ l m. none_through (Follows k t) (λ z. option_map (at_part o) z) (kind_place kind.Name == kind_place l) (next_table_reading (stage.InBucket o (place.Sets ps)) x c (mark l))
    (Some (bucket.Named, tells.SetName)) (if kind_place kind.Out == kind_place l then Some (bucket.Out, tells.Nothing) else None) m.named
    (both_through (Follows k t) (bucket_on x c o) (λ z. option_map (at_part o) z) (kind_place kind.Out == kind_place l) (then_place.Going (place.Out ps)) then_place.Refused
    (Some (bucket.Out, tells.Nothing)) None
    (refl, (h.0, gives_still (assigned_so x c o ps) (λ v p. Owns x c o v.sets v p) (λ v p. Owns x c o v.sets v p) k t (λ v p d. d) h.1)) tt))

step_named : (x : WrittenTables) (c : WrittenTable) (o : Owner) (ps : List Pair) (w : Ident) (k : KnownValue) (t : Token) → Fits (stage.InBucket o (place.Named ps w)) x c k
    → Both (Follows k t) (next_table_reading (stage.InBucket o (place.Named ps w)) x c (table_terminal_of t)) (after_bucket o bucket.Named t.kind)
step_named x c o ps w k t h =
    by_token (Follows k t) (next_table_reading (stage.InBucket o (place.Named ps w)) x c) (after_bucket o bucket.Named) t tt tt
    (λ l m. both_through (Follows k t) (bucket_on x c o) (λ z. option_map (at_part o) z) (kind_place kind.Assign == kind_place l) (then_place.Going (place.Assigned ps w)) then_place.Refused
    (Some (bucket.Assigned, tells.Nothing)) None
    (refl, (h.0, gives_still (named_so x c o ps w) (λ v p. Owns x c o v.sets v p × IsField w v p) (λ v p. Owns x c o v.sets v p × IsField w v p) k t (λ v p d. d) h.1)) tt)

step_assigned : (x : WrittenTables) (c : WrittenTable) (o : Owner) (ps : List Pair) (w : Ident) (k : KnownValue) (t : Token) → Fits (stage.InBucket o (place.Assigned ps w)) x c k
    → Both (Follows k t) (next_table_reading (stage.InBucket o (place.Assigned ps w)) x c (table_terminal_of t)) (after_bucket o bucket.Assigned t.kind)
step_assigned x c o ps w k t h =
    by_token (Follows k t) (next_table_reading (stage.InBucket o (place.Assigned ps w)) x c) (after_bucket o bucket.Assigned) t tt (
      refl,
      (
        h.0,
        gives_on (named_so x c o ps w) (assigned_so x c o (ps ++ record { name = w; number = number_of_token t } ∷ []))
            (λ v. checked_ok (line_above (most_in v.said.fields w) (number_of_token t)) (with_sets v (act_then v.sets ((place_of_field v.said.fields w, t.value) ∷ [])) exit.Back))
            (λ v p. Owns x c o v.sets v p × IsField w v p) (λ v p. Owns x c o v.sets v p) k tells.SetValue t (pair_more x c o ps w (number_of_token t))
            (λ v p d. gives_filling (λ v p. Owns x c o v.sets v p) (line_above (most_in v.said.fields w) (number_of_token t)) (line_above p.filling.max (number_of_token t))
            (with_sets v (act_then v.sets ((place_of_field v.said.fields w, t.value) ∷ [])) exit.Back) p (record p.filling { sets = act_then p.filling.sets ((p.filling.field, t.value) ∷ []) })
            (ap (λ n. line_above n (number_of_token t)) (sym d.1.1))
            (owns_still x c o v.sets (act_then v.sets ((place_of_field v.said.fields w, t.value) ∷ [])) exit.Back v p (record p.filling { sets = act_then p.filling.sets ((p.filling.field, t.value) ∷ []) }) d.0
            (record { switch = refl; groups = refl; rows = refl; number = refl; buckets = refl; priority = refl; matches = refl })
            (ap (λ l. act_then l ((p.filling.field, t.value) ∷ [])) (owns_sets x c o v.sets v p d.0) ∙ ap (λ n. act_then v.sets ((n, t.value) ∷ [])) d.1.0))) h.1,
      ),
    )
    (λ l m. none_through (Follows k t) (λ z. option_map (at_part o) z) (kind_place kind.Number == kind_place l) None (Some (bucket.Sets, tells.SetValue)) None m.numbered tt)

-- ---- the exit

step_out : (x : WrittenTables) (c : WrittenTable) (o : Owner) (ps : List Pair) (k : KnownValue) (t : Token) → Fits (stage.InBucket o (place.Out ps)) x c k
    → Both (Follows k t) (next_table_reading (stage.InBucket o (place.Out ps)) x c (table_terminal_of t)) (after_bucket o bucket.Out t.kind)
step_out x c o ps k t h =
    by_token (Follows k t) (next_table_reading (stage.InBucket o (place.Out ps)) x c) (after_bucket o bucket.Out) t tt (
      refl,
      (
        h.0,
        gives_on (assigned_so x c o ps) (left_so x c o ps (way.Port (number_of_token t))) (λ v. checked_ok (line_above 65535 (number_of_token t)) (with_sets v v.sets (exit.Port t.value)))
            (λ v p. Owns x c o v.sets v p) (λ v p. Owns x c o v.sets v p × (p.filling.exit ≡ v.out)) k tells.OutPort t
            (then_same (assigned_so x c o ps) _ _ (λ v. unless_assoc (line_above 65535 (number_of_token t)) (exit.Port t.value) (λ y. Ok (with_sets v v.sets y))))
            (λ v p d. gives_filling (λ v p. Owns x c o v.sets v p × (p.filling.exit ≡ v.out)) (line_above 65535 (number_of_token t)) (line_above 65535 (number_of_token t))
            (with_sets v v.sets (exit.Port t.value)) p (record p.filling { exit = exit.Port t.value }) refl
            (owns_still x c o v.sets v.sets (exit.Port t.value) v p (record p.filling { exit = exit.Port t.value }) d (record { switch = refl; groups = refl; rows = refl; number = refl; buckets = refl; priority = refl; matches = refl }) (owns_sets x c o v.sets v p d), refl)) h.1,
      ),
    )
    (λ l m. none_through (Follows k t) (λ z. option_map (at_part o) z) (kind_place kind.Number == kind_place l) (next_table_reading (stage.InBucket o (place.Out ps)) x c (mark l))
    (Some (bucket.Left, tells.OutPort)) (if kind_place kind.In == kind_place l then Some (bucket.Left, tells.OutBack) else None) m.numbered
    (both_through (Follows k t) (bucket_on x c o) (λ z. option_map (at_part o) z) (kind_place kind.In == kind_place l) (then_place.Going (place.Left ps way.Back)) then_place.Refused
    (Some (bucket.Left, tells.OutBack)) None (
      refl,
      (
        h.0,
        gives_on (assigned_so x c o ps) (left_so x c o ps way.Back) (λ v. Ok (with_sets v v.sets exit.Back))
            (λ v p. Owns x c o v.sets v p) (λ v p. Owns x c o v.sets v p × (p.filling.exit ≡ v.out)) k tells.OutBack t refl
            (λ v p d. (owns_still x c o v.sets v.sets exit.Back v p (out_back_told p.filling) d (record { switch = refl; groups = refl; rows = refl; number = refl; buckets = refl; priority = refl; matches = refl }) (owns_sets x c o v.sets v p d), refl)) h.1,
      ),
    ) tt))

-- ---- the bracket

-- the bucket that is read
bucket_same : (ss : List (ℕ × ℕ)) (e : Exit) (f : FillingValue) → f.sets ≡ ss → f.exit ≡ e → bucket_with f.sets f.exit ≡ bucket_with ss e
bucket_same ss e f s out = ap (λ l. bucket_with l f.exit) s ∙ ap (λ y. bucket_with ss y) out

buckets_same : (bs : List Bucket) (ss : List (ℕ × ℕ)) (e : Exit) (f : FillingValue) → f.buckets ≡ bs → f.sets ≡ ss → f.exit ≡ e
    → f.buckets ++ bucket_with f.sets f.exit ∷ [] ≡ bs ++ bucket_with ss e ∷ []
buckets_same bs ss e f b s out = ap (λ l. l ++ bucket_with f.sets f.exit ∷ []) b ∙ ap (λ y. bs ++ y ∷ []) (bucket_same ss e f s out)

bucket_whole : (x : WrittenTables) (c : WrittenTable) (o : Owner) (ps : List Pair) (e : Way) (k : KnownValue) (t : Token) → Fits (stage.InBucket o (place.Left ps e)) x c k
    → Follows k t (bucket_done x c o (record { sets = ps; way = e })) (whole_of o, tells_of o)
bucket_whole x c (owner.First n) ps e k t h = (
  refl,
  (
    h.0,
    gives_on (left_so x c (owner.First n) ps e) (filled_so x c (record { number = n; first = record { sets = ps; way = e }; more = [] }))
        (λ v. Ok (so_far v.said v.tables v.groups [] (bucket_with v.sets v.out ∷ []) []))
        (λ v p. Owns x c (owner.First n) v.sets v p × (p.filling.exit ≡ v.out)) (Owns x c (owner.Next (record { number = n; first = record { sets = ps; way = e }; more = [] })) [])
        k tells.GroupBucket t (first_bucket_more x c n ps e)
        (λ v p d. (
          opens_still x c c [] [] v (so_far v.said v.tables v.groups [] (bucket_with v.sets v.out ∷ []) []) p (group_bucket_told p.filling) d.0.0 refl refl refl refl d.0.0.groups d.0.0.rows,
          record { buckets = buckets_same [] v.sets v.out p.filling d.0.1.buckets d.0.1.sets d.1; matches = d.0.1.matches; sets = refl },
          d.0.2,
        )) h.1,
  ),
)
bucket_whole x c (owner.Next g) ps e k t h = (
  refl,
  (
    h.0,
    gives_on (left_so x c (owner.Next g) ps e) (filled_so x c (record g { more = g.more ++ record { sets = ps; way = e } ∷ [] }))
        (λ v. Ok (so_far v.said v.tables v.groups [] (v.buckets ++ bucket_with v.sets v.out ∷ []) []))
        (λ v p. Owns x c (owner.Next g) v.sets v p × (p.filling.exit ≡ v.out)) (Owns x c (owner.Next (record g { more = g.more ++ record { sets = ps; way = e } ∷ [] })) [])
        k tells.GroupBucket t (bucket_more x c g ps e)
        (λ v p d. (
          opens_still x c c [] [] v (so_far v.said v.tables v.groups [] (v.buckets ++ bucket_with v.sets v.out ∷ []) []) p (group_bucket_told p.filling) d.0.0 refl refl refl refl d.0.0.groups d.0.0.rows,
          record { buckets = buckets_same v.buckets v.sets v.out p.filling d.0.1.buckets d.0.1.sets d.1; matches = d.0.1.matches; sets = refl },
          d.0.2,
        )) h.1,
  ),
)
bucket_whole x c (owner.Row q ms) ps e k t h = (
  refl,
  gives_on (left_so x c (owner.Row q ms) ps e) (rowed_so x (with_table_row c (row_written q ms (target.Bucket (record { sets = ps; way = e })))))
      (λ v. Ok (so_far v.said v.tables v.groups (v.rows ++ row_with q v.matches (does.Bucket (bucket_with v.sets v.out)) ∷ []) [] []))
      (λ v p. Owns x c (owner.Row q ms) v.sets v p × (p.filling.exit ≡ v.out)) (Rows x (with_table_row c (row_written q ms (target.Bucket (record { sets = ps; way = e })))))
      k tells.RowBucket t (row_more_bucket x c q ms ps e)
      (λ v p d. (
        opens_still x c (with_table_row c (row_written q ms (target.Bucket (record { sets = ps; way = e })))) v.rows (v.rows ++ row_with q v.matches (does.Bucket (bucket_with v.sets v.out)) ∷ []) v
            (so_far v.said v.tables v.groups (v.rows ++ row_with q v.matches (does.Bucket (bucket_with v.sets v.out)) ∷ []) [] []) p (row_bucket_told p.filling) d.0.0 refl refl refl refl d.0.0.groups
            (rows_same v.rows q.value v.matches (does.Bucket (bucket_with v.sets v.out)) p.filling (does.Bucket (bucket_with p.filling.sets p.filling.exit)) d.0.0.rows d.0.2 d.0.1.matches
            (ap (λ y. does.Bucket y) (bucket_same v.sets v.out p.filling d.0.1.sets d.1))),
        record { buckets = d.0.1.buckets; matches = refl; sets = refl },
      )) h.1,
)

step_left : (x : WrittenTables) (c : WrittenTable) (o : Owner) (ps : List Pair) (e : Way) (k : KnownValue) (t : Token) → Fits (stage.InBucket o (place.Left ps e)) x c k
    → Both (Follows k t) (next_table_reading (stage.InBucket o (place.Left ps e)) x c (table_terminal_of t)) (after_bucket o bucket.Left t.kind)
step_left x c o ps e k t h =
    by_token (Follows k t) (next_table_reading (stage.InBucket o (place.Left ps e)) x c) (after_bucket o bucket.Left) t tt tt
    (λ l m. both_through (Follows k t) (bucket_on x c o) (λ z. or_else z None) (kind_place kind.CloseBracket == kind_place l) (then_place.Full (record { sets = ps; way = e })) then_place.Refused
    (Some (whole_of o, tells_of o)) None (bucket_whole x c o ps e k t h) tt)

-- ---- all of it

step_in : (x : WrittenTables) (c : WrittenTable) (o : Owner) (l : Place) (k : KnownValue) (t : Token) → Fits (stage.InBucket o l) x c k
    → Both (Follows k t) (next_table_reading (stage.InBucket o l) x c (table_terminal_of t)) (after_bucket o (bucket_state l) t.kind)
step_in x c o (place.Sets ps) k t h = step_sets x c o ps k t h
step_in x c o (place.Named ps w) k t h = step_named x c o ps w k t h
step_in x c o (place.Assigned ps w) k t h = step_assigned x c o ps w k t h
step_in x c o (place.Out ps) k t h = step_out x c o ps k t h
step_in x c o (place.Left ps e) k t h = step_left x c o ps e k t h

pub step_bucket : (x : WrittenTables) (c : WrittenTable) (o : Owner) (l : Place) (k : KnownValue) (t : Token) → Fits (stage.InBucket o l) x c k
    → Both (Follows k t) (next_table_reading (stage.InBucket o l) x c (table_terminal_of t)) (after_token (state_of_stage (stage.InBucket o l)) t.kind)
step_bucket x c o l k t h =
    subst (λ z. Both (Follows k t) (next_table_reading (stage.InBucket o l) x c (table_terminal_of t)) z) (sym (is_after o (bucket_state l) t.kind)) (step_in x c o l k t h)
