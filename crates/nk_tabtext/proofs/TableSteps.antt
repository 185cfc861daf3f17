-- One more token, where a table begins or its groups are read.
use Rattle.std.proofs.Common.{◌≡◌, ℕ, List, [], ◌∷◌, ◌++◌, refl, sym, ap, ◌∙◌, Some}
use Rattle.std.specs.Prelude.{Ok, ◌==◌}
use Rattle.std.specs.declared.result.Result.{Result}
use Rattle.std.specs.Ordering.{nat_cmp}
use Rattle.std.specs.BTreeMap.{insert_entry}
use Rattle.nk_lex.specs.declared.kind.Kind.{Kind}
use Rattle.nk_lex.specs.declared.kind.Kind.TheVariants as kind
use Rattle.nk_lex.specs.declared.token.Token.{Token}
use Rattle.nk_lex.specs.declared.ident.Number.{Number}
use Rattle.nk_table.specs.declared.Bucket.{Bucket}
use Rattle.nk_table.specs.declared.Exit.{Exit}
use Rattle.nk_table.specs.declared.Exit.TheVariants as exit
use Rattle.nk_table.specs.declared.Group.{Group}
use Rattle.nk_table.specs.declared.Row.{Row}
use Rattle.nk_table.specs.declared.Target.{Target}
use Rattle.nk_tabgrammar.specs.declared.written.WrittenGroup.{WrittenGroup}
use Rattle.nk_tabgrammar.specs.declared.written.WrittenTable.{WrittenTable}
use Rattle.nk_tabgrammar.specs.declared.written.WrittenTables.{WrittenTables}
use Rattle.nk_tabgrammar.specs.declared.written.ReadError.{ReadError}
use Rattle.nk_tabgrammar.specs.declared.stage.Place.TheVariants as place
use Rattle.nk_tabgrammar.specs.declared.stage.Owner.{Owner}
use Rattle.nk_tabgrammar.specs.declared.stage.Owner.TheVariants as owner
use Rattle.nk_tabgrammar.specs.declared.stage.Stage.TheVariants as stage
use Rattle.nk_tabgrammar.specs.declared.stage.Grouping.TheVariants as grouping
use Rattle.nk_tabgrammar.specs.declared.stage.InRow.TheVariants as in_row
use Rattle.nk_tabgrammar.specs.Terminal.{mark, kind_place, table_terminal_of}
use Rattle.nk_tabgrammar.specs.Machine.{begin_group, begin_row, next_table_reading, no_table, opened_table, table_reading, with_group, with_table}
use Rattle.nk_tabgrammar.specs.declared.states.BucketState.TheVariants as bucket
use Rattle.nk_tabgrammar.specs.declared.states.RowState.TheVariants as row
use Rattle.nk_tabgrammar.specs.declared.states.State.TheVariants as state
use Rattle.nk_tabgrammar.specs.declared.states.Tells.{Tells}
use Rattle.nk_tabgrammar.specs.declared.states.Tells.TheVariants as tells
use Rattle.nk_tabgrammar.specs.States as states
use Rattle.nk_tabgrammar.specs.States.{after_token}
use Rattle.nk_tabtext.specs.Values.{FaultLine, checked, group_fault, group_of, table_fault, table_with}
use Rattle.nk_tabtext.specs.Progress.{FillingValue, PartialValue, KnownValue, finished, finished_at, group_ends_told, known_after, number_of_token}
use Rattle.nk_tabtext.proofs.Stages.{TablesSoFar, so_far, with_sets, tabled_so, grouped_so, rowed_so, numbered_so, filled_so, owned_so, assigned_so, table_more, no_row_more, group_more}
use Rattle.nk_tabtext.proofs.Fitting.{Closes, Fits, Gives, Groups, Opens, Owns, Rows, gives_filling, gives_more, gives_on, gives_still, gives_table}
use Rattle.nk_tabtext.proofs.Going.{Both, Follows, both_if, both_last, by_token, none_if}

-- what is said, unless a rule is broken
abbrev pub checked_ok : FaultLine → TablesSoFar → Result TablesSoFar ReadError
checked_ok o v = checked o (Ok v)

-- a group by its parts
abbrev group_with : ℕ → List Bucket → Group
group_with n bs = record { number = n; buckets = bs }

-- a row by its parts
abbrev row_by : ℕ → List (ℕ × ℕ × ℕ) → Target → Row
row_by n ms a = record { priority = n; matches = ms; target = a }

-- a table stays open, whatever is told of its group or row
pub opens_still : (x : WrittenTables) (c d : WrittenTable) (rs qs : List Row) (v w : TablesSoFar) (p : PartialValue) (f : FillingValue) → Opens x c rs v p
    → d.switch.value ≡ c.switch.value → w.said ≡ v.said → w.tables ≡ v.tables → f.switch ≡ p.filling.switch → f.groups ≡ w.groups → f.rows ≡ qs
    → Opens x d qs w (record p { filling = f })
opens_still x c d rs qs v w p f h at said tables switch groups rows = record {
  version = h.version;
  said = h.said ∙ sym said;
  tables = h.tables ∙ sym tables;
  switch = switch ∙ h.switch ∙ ap (λ n. Some n) (sym at);
  groups = groups;
  rows = rows;
}

-- a row that is whole
pub rows_same : (rs : List Row) (n : ℕ) (ms : List (ℕ × ℕ × ℕ)) (a : Target) (f : FillingValue) (b : Target) → f.rows ≡ rs → f.priority ≡ n → f.matches ≡ ms → b ≡ a
    → f.rows ++ row_by f.priority f.matches b ∷ [] ≡ rs ++ row_by n ms a ∷ []
rows_same rs n ms a f b r p m e =
    ap (λ l. l ++ row_by f.priority f.matches b ∷ []) r ∙ ap (λ k. rs ++ row_by k f.matches b ∷ []) p ∙ ap (λ l. rs ++ row_by n l b ∷ []) m ∙ ap (λ y. rs ++ row_by n ms y ∷ []) e

-- the table is whole
closes_tables : (x : WrittenTables) (c : WrittenTable) (v : TablesSoFar) (p : PartialValue) → Opens x c v.rows v p
    → finished p.tables p.filling ≡ insert_entry nat_cmp v.tables c.switch.value (table_with c.switch v.groups v.rows)
closes_tables x c v p d =
    ap (λ o. finished_at o p.tables p.filling) d.switch
    ∙ ap (λ l. insert_entry nat_cmp l c.switch.value (table_with c.switch p.filling.groups p.filling.rows)) d.tables
    ∙ ap (λ l. insert_entry nat_cmp v.tables c.switch.value (table_with c.switch l p.filling.rows)) d.groups
    ∙ ap (λ l. insert_entry nat_cmp v.tables c.switch.value (table_with c.switch v.groups l)) d.rows

pub table_closes : (x : WrittenTables) (c : WrittenTable) (k : KnownValue) → Gives (rowed_so x c) (Rows x c) k
    → Gives (tabled_so (with_table x c)) (λ v p. Closes (with_table x c) v.tables v p) k
table_closes x c k h =
    gives_more (rowed_so x c) (tabled_so (with_table x c)) (λ v. so_far v.said (insert_entry nat_cmp v.tables c.switch.value (table_with c.switch v.groups v.rows)) [] [] [] [])
    (Rows x c) (λ v p. Closes (with_table x c) v.tables v p) k (table_more x c)
    (λ v p d. record { version = d.0.version; said = d.0.said; tables = closes_tables x c v p d.0; parts = d.1 }) h

-- after the groups stand rows
pub groups_rows : (x : WrittenTables) (c : WrittenTable) (k : KnownValue) → c.rows ≡ [] → Gives (grouped_so x c) (Groups x c) k → Gives (rowed_so x c) (Rows x c) k
groups_rows x c k e h =
    gives_more (grouped_so x c) (rowed_so x c) (λ v. so_far v.said v.tables v.groups [] [] []) (Groups x c) (Rows x c) k (no_row_more x c e)
    (λ v p d. (opens_still x c c [] [] v (so_far v.said v.tables v.groups [] [] []) p p.filling d.0 refl refl refl refl d.0.groups d.0.rows, d.1)) h

-- a row begins, or the next table
pub rows_begin : (x : WrittenTables) (c : WrittenTable) (k : KnownValue) (tl : Tells) (t : Token) (l : Kind) → Gives (rowed_so x c) (Rows x c) (known_after k tl t)
    → Both (Follows k t) (begin_row x c (mark l)) (states.begin_row l tl)
rows_begin x c k tl t l h =
    both_if (Follows k t) (kind_place kind.Row == kind_place l) (table_reading (stage.InRow in_row.Row) x c) (state.Row row.Row, tl) _ _ (refl, h)
    (both_last (Follows k t) (kind_place kind.Table == kind_place l) (table_reading stage.Table (with_table x c) no_table) (state.Table, tl)
    (refl, table_closes x c (known_after k tl t) h))

-- a group begins, or a row, or the next table
pub groups_begin : (x : WrittenTables) (c : WrittenTable) (k : KnownValue) (tl : Tells) (t : Token) (l : Kind) → c.rows ≡ [] → Gives (grouped_so x c) (Groups x c) (known_after k tl t)
    → Both (Follows k t) (begin_group x c (mark l)) (states.begin_group l tl)
groups_begin x c k tl t l e h =
    both_if (Follows k t) (kind_place kind.Group == kind_place l) (table_reading (stage.Grouped grouping.Group) x c) (state.Group, tl) _ _ (refl, (e, h))
    (rows_begin x c k tl t l (groups_rows x c (known_after k tl t) e h))

pub step_table : (x : WrittenTables) (c : WrittenTable) (k : KnownValue) (t : Token) → Fits stage.Table x c k
    → Both (Follows k t) (next_table_reading stage.Table x c (table_terminal_of t)) (after_token state.Table t.kind)
step_table x c k t h =
    by_token (Follows k t) (next_table_reading stage.Table x c) (after_token state.Table) t tt (
      refl,
      (
        refl,
        gives_on (tabled_so x) (grouped_so x (opened_table (number_of_token t))) (λ v. checked_ok (table_fault v.said.topo v.tables (number_of_token t)) (so_far v.said v.tables [] [] [] []))
            (λ v p. Closes x v.tables v p) (Groups x (opened_table (number_of_token t))) k tells.Table t refl
            (λ v p d. gives_table (Groups x (opened_table (number_of_token t))) (table_fault v.said.topo v.tables (number_of_token t)) (table_fault p.declaring.said.topo (finished p.tables p.filling) (number_of_token t))
            (so_far v.said v.tables [] [] [] []) p (record p.filling { switch = Some t.value; groups = []; rows = [] }) (finished p.tables p.filling)
            (ap (λ s. table_fault s.topo v.tables (number_of_token t)) (sym d.said) ∙ ap (λ l. table_fault p.declaring.said.topo l (number_of_token t)) (sym d.tables)) (
              record { version = d.version; said = d.said; tables = d.tables; switch = refl; groups = refl; rows = refl },
              record { buckets = d.parts.buckets; matches = d.parts.matches; sets = d.parts.sets },
            )) h,
      ),
    )
    (λ l m. none_if (Follows k t) _ _ m.numbered)

pub step_groups : (x : WrittenTables) (c : WrittenTable) (k : KnownValue) (t : Token) → Fits stage.Groups x c k
    → Both (Follows k t) (next_table_reading stage.Groups x c (table_terminal_of t)) (after_token state.Groups t.kind)
step_groups x c k t h =
    by_token (Follows k t) (next_table_reading stage.Groups x c) (after_token state.Groups) t tt tt
    (λ l m. groups_begin x c k tells.Nothing t l h.0 (gives_still (grouped_so x c) (Groups x c) (Groups x c) k t (λ v p d. d) h.1))

pub step_rows : (x : WrittenTables) (c : WrittenTable) (k : KnownValue) (t : Token) → Fits stage.Rows x c k
    → Both (Follows k t) (next_table_reading stage.Rows x c (table_terminal_of t)) (after_token state.Rows t.kind)
step_rows x c k t h =
    by_token (Follows k t) (next_table_reading stage.Rows x c) (after_token state.Rows) t tt tt
    (λ l m. rows_begin x c k tells.Nothing t l (gives_still (rowed_so x c) (Rows x c) (Rows x c) k t (λ v p d. d) h))

pub step_group : (x : WrittenTables) (c : WrittenTable) (k : KnownValue) (t : Token) → Fits (stage.Grouped grouping.Group) x c k
    → Both (Follows k t) (next_table_reading (stage.Grouped grouping.Group) x c (table_terminal_of t)) (after_token state.Group t.kind)
step_group x c k t h =
    by_token (Follows k t) (next_table_reading (stage.Grouped grouping.Group) x c) (after_token state.Group) t tt (
      refl,
      (
        h.0,
        gives_on (grouped_so x c) (numbered_so x c (number_of_token t)) (λ v. checked_ok (group_fault v.groups (number_of_token t)) (so_far v.said v.tables v.groups [] [] []))
            (Groups x c) (Owns x c (owner.First (number_of_token t)) []) k tells.Group t refl
            (λ v p d. gives_filling (Owns x c (owner.First (number_of_token t)) []) (group_fault v.groups (number_of_token t)) (group_fault p.filling.groups (number_of_token t))
            (so_far v.said v.tables v.groups [] [] []) p (record p.filling { number = t.value; buckets = [] })
            (ap (λ l. group_fault l (number_of_token t)) (sym d.0.groups)) (
              opens_still x c c [] [] v (so_far v.said v.tables v.groups [] [] []) p (record p.filling { number = t.value; buckets = [] }) d.0 refl refl refl refl d.0.groups d.0.rows,
              record { buckets = refl; matches = d.1.matches; sets = d.1.sets },
              refl,
            )) h.1,
      ),
    )
    (λ l m. none_if (Follows k t) _ _ m.numbered)

pub step_group_numbered : (x : WrittenTables) (c : WrittenTable) (n : Number) (k : KnownValue) (t : Token) → Fits (stage.Grouped (grouping.GroupNumbered n)) x c k
    → Both (Follows k t) (next_table_reading (stage.Grouped (grouping.GroupNumbered n)) x c (table_terminal_of t)) (after_token state.GroupNumbered t.kind)
step_group_numbered x c n k t h =
    by_token (Follows k t) (next_table_reading (stage.Grouped (grouping.GroupNumbered n)) x c) (after_token state.GroupNumbered) t tt tt
    (λ l m. both_last (Follows k t) (kind_place kind.Equal == kind_place l) (table_reading (stage.Grouped (grouping.FirstBucket n)) x c) (state.FirstBucket, tells.Nothing)
    (refl, (h.0, gives_still (numbered_so x c n) (Owns x c (owner.First n) []) (Owns x c (owner.First n) []) k t (λ v p d. d) h.1)))

-- ---- a bucket begins

-- what stands before a bucket stays, whatever is told of the bucket
pub record Rest (f g : FillingValue) : Type 0 where
  pub switch : f.switch ≡ g.switch
  pub groups : f.groups ≡ g.groups
  pub rows : f.rows ≡ g.rows
  pub number : f.number ≡ g.number
  pub buckets : f.buckets ≡ g.buckets
  pub priority : f.priority ≡ g.priority
  pub matches : f.matches ≡ g.matches

pub owns_still : (x : WrittenTables) (c : WrittenTable) (o : Owner) (ss ts : List (ℕ × ℕ)) (e : Exit) (v : TablesSoFar) (p : PartialValue) (f : FillingValue) → Owns x c o ss v p
    → Rest f p.filling → f.sets ≡ ts → Owns x c o ts (with_sets v ts e) (record p { filling = f })
owns_still x c (owner.Row q ms) ss ts e v p f h r s = (
  opens_still x c c v.rows v.rows v (with_sets v ts e) p f h.0 refl refl refl r.switch (r.groups ∙ h.0.groups) (r.rows ∙ h.0.rows),
  record { buckets = r.buckets ∙ h.1.buckets; matches = r.matches ∙ h.1.matches; sets = s },
  r.priority ∙ h.2,
)
owns_still x c o ss ts e v p f h r s = (
  opens_still x c c [] [] v (with_sets v ts e) p f h.0 refl refl refl r.switch (r.groups ∙ h.0.groups) (r.rows ∙ h.0.rows),
  record { buckets = r.buckets ∙ h.1.buckets; matches = r.matches ∙ h.1.matches; sets = s },
  r.number ∙ h.2,
)

pub owns_sets : (x : WrittenTables) (c : WrittenTable) (o : Owner) (ss : List (ℕ × ℕ)) (v : TablesSoFar) (p : PartialValue) → Owns x c o ss v p → p.filling.sets ≡ ss
owns_sets x c (owner.First n) ss v p h = h.1.sets
owns_sets x c (owner.Next g) ss v p h = h.1.sets
owns_sets x c (owner.Row q ms) ss v p h = h.1.sets

pub bucket_opens : (x : WrittenTables) (c : WrittenTable) (o : Owner) (k : KnownValue) (t : Token) → Gives (owned_so x c o) (Owns x c o []) k
    → Gives (assigned_so x c o []) (λ v p. Owns x c o v.sets v p) (known_after k tells.Nothing t)
bucket_opens x c o k t h =
    gives_more (owned_so x c o) (assigned_so x c o []) (λ v. with_sets v [] exit.Back) (Owns x c o []) (λ v p. Owns x c o v.sets v p) (known_after k tells.Nothing t) refl
    (λ v p d. owns_still x c o [] [] exit.Back v p p.filling d
    (record { switch = refl; groups = refl; rows = refl; number = refl; buckets = refl; priority = refl; matches = refl }) (owns_sets x c o [] v p d))
    (gives_still (owned_so x c o) (Owns x c o []) (Owns x c o []) k t (λ v p d. d) h)

pub step_first_bucket : (x : WrittenTables) (c : WrittenTable) (n : Number) (k : KnownValue) (t : Token) → Fits (stage.Grouped (grouping.FirstBucket n)) x c k
    → Both (Follows k t) (next_table_reading (stage.Grouped (grouping.FirstBucket n)) x c (table_terminal_of t)) (after_token state.FirstBucket t.kind)
step_first_bucket x c n k t h =
    by_token (Follows k t) (next_table_reading (stage.Grouped (grouping.FirstBucket n)) x c) (after_token state.FirstBucket) t tt tt
    (λ l m. both_last (Follows k t) (kind_place kind.OpenBracket == kind_place l) (table_reading (stage.InBucket (owner.First n) (place.Sets [])) x c) (state.InGroup bucket.Sets, tells.Nothing)
    (refl, (h.0, bucket_opens x c (owner.First n) k t h.1)))

-- the group is whole
pub group_closes : (x : WrittenTables) (c : WrittenTable) (g : WrittenGroup) (v : TablesSoFar) (p : PartialValue) → Owns x c (owner.Next g) [] v p
    → Groups x (with_group c g) (so_far v.said v.tables (insert_entry nat_cmp v.groups g.number.value (group_of g.number v.buckets)) [] [] []) (record p { filling = group_ends_told p.filling })
group_closes x c g v p d = (
  opens_still x c (with_group c g) [] [] v (so_far v.said v.tables (insert_entry nat_cmp v.groups g.number.value (group_of g.number v.buckets)) [] [] []) p (group_ends_told p.filling) d.0
      refl refl refl refl
      (ap (λ l. insert_entry nat_cmp l p.filling.number (group_with p.filling.number p.filling.buckets)) d.0.groups
      ∙ ap (λ m. insert_entry nat_cmp v.groups m (group_with m p.filling.buckets)) d.2
      ∙ ap (λ l. insert_entry nat_cmp v.groups g.number.value (group_with g.number.value l)) d.1.buckets) d.0.rows,
  record { buckets = refl; matches = d.1.matches; sets = d.1.sets },
)

pub step_bucket_read : (x : WrittenTables) (c : WrittenTable) (g : WrittenGroup) (k : KnownValue) (t : Token) → Fits (stage.Grouped (grouping.BucketRead g)) x c k
    → Both (Follows k t) (next_table_reading (stage.Grouped (grouping.BucketRead g)) x c (table_terminal_of t)) (after_token state.BucketRead t.kind)
step_bucket_read x c g k t h =
    by_token (Follows k t) (next_table_reading (stage.Grouped (grouping.BucketRead g)) x c) (after_token state.BucketRead) t tt tt
    (λ l m. both_if (Follows k t) (kind_place kind.OpenBracket == kind_place l) (table_reading (stage.InBucket (owner.Next g) (place.Sets [])) x c) (state.InGroup bucket.Sets, tells.Nothing) _ _
    (refl, (h.0, bucket_opens x c (owner.Next g) k t h.1))
    (groups_begin x (with_group c g) k tells.GroupEnds t l h.0
    (gives_on (filled_so x c g) (grouped_so x (with_group c g)) (λ v. Ok (so_far v.said v.tables (insert_entry nat_cmp v.groups g.number.value (group_of g.number v.buckets)) [] [] []))
    (Owns x c (owner.Next g) []) (Groups x (with_group c g)) k tells.GroupEnds t (group_more x c g) (λ v p d. group_closes x c g v p d) h.1)))
