-- What the first tokens of a table text say, by what is written so far; and what one more part adds to it.
use Rattle.std.proofs.Common.{◌≡◌, ℕ, List, [], ◌∷◌, ◌++◌, refl, sym, ◌∙◌, Some, None, map}
use Rattle.std.specs.Prelude.{Ok, Err}
use Rattle.std.specs.declared.result.Result.{Result}
use Rattle.std.specs.Ordering.{nat_cmp}
use Rattle.std.specs.BTreeMap.{insert_entry}
use Rattle.nk_lex.specs.Faults.{and_then, first_of}
use Rattle.nk_field.specs.Packet.{FieldTable}
use Rattle.nk_field.specs.Act.{act_then}
use Rattle.nk_table.specs.declared.Bucket.{Bucket}
use Rattle.nk_table.specs.declared.Group.{Group}
use Rattle.nk_table.specs.declared.Row.{Row}
use Rattle.nk_table.specs.declared.Table.{Table}
use Rattle.nk_declare.specs.declared.fault.DeclareError.{DeclareError}
use Rattle.nk_declare.specs.Declarations.{DeclaredValue, declared_with, declared_after}
use Rattle.nk_tabgrammar.specs.declared.written.Pair.{Pair}
use Rattle.nk_tabgrammar.specs.declared.written.Declaration.{Declaration}
use Rattle.nk_tabgrammar.specs.declared.written.WrittenMatch.{WrittenMatch}
use Rattle.nk_tabgrammar.specs.declared.written.WrittenBucket.{WrittenBucket}
use Rattle.nk_tabgrammar.specs.declared.written.WrittenRow.{WrittenRow}
use Rattle.nk_tabgrammar.specs.declared.written.WrittenGroup.{WrittenGroup}
use Rattle.nk_tabgrammar.specs.declared.written.WrittenTable.{WrittenTable}
use Rattle.nk_tabgrammar.specs.declared.written.ReadError.{ReadError}
use Rattle.nk_tabtext.specs.Values.{FaultLine, bucket_read, buckets_read, checked, group_read, groups_read, match_read, matches_read, pair_read, pairs_read, plain_declaration, placed_match, read_of, row_read, rows_read, said_after, table_read, tables_read, unless_at}

-- ---- results one after the other

module _ {X Y Z E : Type 0} where
  pub then_assoc : (r : Result X E) (f : X → Result Y E) (g : Y → Result Z E) → and_then (and_then r f) g ≡ and_then r (λ x. and_then (f x) g)
  then_assoc (Ok x) f g = refl
  then_assoc (Err e) f g = refl

module _ {X : Type 0} where
  pub checked_first : (a b : FaultLine) (r : Result X ReadError) → checked (first_of a b) r ≡ checked a (checked b r)
  checked_first None b r = refl
  checked_first (Some l) b r = refl

module _ {X Y : Type 0} where
  pub checked_assoc : (o : FaultLine) (r : Result X ReadError) (f : X → Result Y ReadError) → and_then (checked o r) f ≡ checked o (and_then r f)
  checked_assoc None r f = refl
  checked_assoc (Some l) r f = refl

  pub unless_assoc : (o : FaultLine) (x : X) (f : X → Result Y ReadError) → and_then (unless_at o x) f ≡ checked o (f x)
  unless_assoc None x f = refl
  unless_assoc (Some l) x f = refl

module _ {X Y E : Type 0} where
  pub then_same : (r : Result X E) (f g : X → Result Y E) → ((x : X) → f x ≡ g x) → and_then r f ≡ and_then r g
  then_same (Ok x) f g e = e x
  then_same (Err l) f g e = refl

-- ---- one more part

pub said_more : (ds : List Declaration) (d : Declaration) (s : DeclaredValue)
    → said_after (ds ++ d ∷ []) s ≡ and_then (said_after ds s) (λ u. read_of (declared_with u (plain_declaration d)))
said_more [] d s = last (declared_with s (plain_declaration d))
  where
    last : (r : Result DeclaredValue DeclareError) → read_of (and_then r (declared_after [])) ≡ read_of r
    last (Ok u) = refl
    last (Err e) = refl
said_more (a ∷ ds) d s = on (declared_with s (plain_declaration a)) (λ u. said_more ds d u)
  where
    on : (r : Result DeclaredValue DeclareError)
        → ((u : DeclaredValue) → said_after (ds ++ d ∷ []) u ≡ and_then (said_after ds u) (λ w. read_of (declared_with w (plain_declaration d))))
        → read_of (and_then r (declared_after (map plain_declaration (ds ++ d ∷ []))))
        ≡ and_then (read_of (and_then r (declared_after (map plain_declaration ds)))) (λ u. read_of (declared_with u (plain_declaration d)))
    on (Ok u) ih = ih u
    on (Err e) ih = refl

pub pairs_more : (fs : FieldTable) (low : ℕ) (before : List (ℕ × ℕ)) (ps : List Pair) (p : Pair)
    → pairs_read fs low before (ps ++ p ∷ []) ≡ and_then (pairs_read fs low before ps) (λ l. and_then (pair_read fs low l p) (λ s. Ok (act_then l (s ∷ []))))
pairs_more fs low before [] p = refl
pairs_more fs low before (q ∷ ps) p =
    then_same (pair_read fs low before q) _ _ (λ s. pairs_more fs low (act_then before (s ∷ [])) ps p)
    ∙ sym (then_assoc (pair_read fs low before q) (λ s. pairs_read fs low (act_then before (s ∷ [])) ps) (λ l. and_then (pair_read fs low l p) (λ s. Ok (act_then l (s ∷ [])))))

pub matches_more : (version : ℕ) (fs : FieldTable) (before : List (ℕ × ℕ × ℕ)) (ms : List WrittenMatch) (m : WrittenMatch)
    → matches_read version fs before (ms ++ m ∷ []) ≡ and_then (matches_read version fs before ms) (λ l. and_then (match_read version fs l m) (λ s. Ok (placed_match s l)))
matches_more version fs before [] m = refl
matches_more version fs before (a ∷ ms) m =
    then_same (match_read version fs before a) _ _ (λ s. matches_more version fs (placed_match s before) ms m)
    ∙ sym (then_assoc (match_read version fs before a) (λ s. matches_read version fs (placed_match s before) ms) (λ l. and_then (match_read version fs l m) (λ s. Ok (placed_match s l))))

pub buckets_more : (fs : FieldTable) (before : List Bucket) (bs : List WrittenBucket) (b : WrittenBucket)
    → buckets_read fs before (bs ++ b ∷ []) ≡ and_then (buckets_read fs before bs) (λ l. and_then (bucket_read fs b) (λ x. Ok (l ++ x ∷ [])))
buckets_more fs before [] b = refl
buckets_more fs before (a ∷ bs) b =
    then_same (bucket_read fs a) _ _ (λ s. buckets_more fs (before ++ s ∷ []) bs b)
    ∙ sym (then_assoc (bucket_read fs a) (λ s. buckets_read fs (before ++ s ∷ []) bs) (λ l. and_then (bucket_read fs b) (λ x. Ok (l ++ x ∷ []))))

pub groups_more : (fs : FieldTable) (before : List (ℕ × Group)) (gs : List WrittenGroup) (g : WrittenGroup)
    → groups_read fs before (gs ++ g ∷ []) ≡ and_then (groups_read fs before gs) (λ l. and_then (group_read fs l g) (λ x. Ok (insert_entry nat_cmp l x.number x)))
groups_more fs before [] g = refl
groups_more fs before (a ∷ gs) g =
    then_same (group_read fs before a) _ _ (λ s. groups_more fs (insert_entry nat_cmp before s.number s) gs g)
    ∙ sym (then_assoc (group_read fs before a) (λ s. groups_read fs (insert_entry nat_cmp before s.number s) gs) (λ l. and_then (group_read fs l g) (λ x. Ok (insert_entry nat_cmp l x.number x))))

pub rows_more : (version : ℕ) (fs : FieldTable) (groups : List (ℕ × Group)) (before : List Row) (rs : List WrittenRow) (r : WrittenRow)
    → rows_read version fs groups before (rs ++ r ∷ []) ≡ and_then (rows_read version fs groups before rs) (λ l. and_then (row_read version fs groups r) (λ x. Ok (l ++ x ∷ [])))
rows_more version fs groups before [] r = refl
rows_more version fs groups before (a ∷ rs) r =
    then_same (row_read version fs groups a) _ _ (λ s. rows_more version fs groups (before ++ s ∷ []) rs r)
    ∙ sym (then_assoc (row_read version fs groups a) (λ s. rows_read version fs groups (before ++ s ∷ []) rs) (λ l. and_then (row_read version fs groups r) (λ x. Ok (l ++ x ∷ []))))

pub tables_more : (version : ℕ) (s : DeclaredValue) (before : List (ℕ × Table)) (ts : List WrittenTable) (t : WrittenTable)
    → tables_read version s before (ts ++ t ∷ []) ≡ and_then (tables_read version s before ts) (λ l. and_then (table_read version s l t) (λ x. Ok (insert_entry nat_cmp l x.switch x)))
tables_more version s before [] t = refl
tables_more version u before (a ∷ ts) t =
    then_same (table_read version u before a) _ _ (λ s. tables_more version u (insert_entry nat_cmp before s.switch s) ts t)
    ∙ sym (then_assoc (table_read version u before a) (λ s. tables_read version u (insert_entry nat_cmp before s.switch s) ts) (λ l. and_then (table_read version u l t) (λ x. Ok (insert_entry nat_cmp l x.switch x))))
