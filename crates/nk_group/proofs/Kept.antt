-- A row's target names the row's buckets, also after more lists were taken, and no list is taken twice.
use Rattle.std.proofs.Common.{◌≡◌, ◌≢◌, inl, inr, ⊎_elim, ℕ, ◌+◌, ◌<◌, Bool, true, false, cond, not, ◌||◌, List, [], ◌∷◌, ◌++◌, refl, sym, ◌∙◌, ap, arith, append_assoc, append-nil}
use Rattle.std.specs.Prelude.{◌==◌, AllPairs}
use Rattle.std.proofs.lemmas.List.Kept.{AllPairs-cons}
use Rattle.nk_field.proofs.Lists.{In}
use Rattle.nk_field.proofs.Ascending.{all_from_members}
use Rattle.nk_table.specs.declared.Group.{Group}
use Rattle.std.specs.List.{list_any, position_or_len}
use Rattle.std.proofs.lemmas.Bool.Decides.{nat_tests}
use Rattle.nk_table.specs.declared.Bucket.{Bucket}
use Rattle.nk_table.specs.declared.Plain.{Plain}
use Rattle.nk_table.specs.Buckets.{same_buckets}
use Rattle.nk_table.specs.Rules.{buckets_in, buckets_for}
use Rattle.nk_table.proofs.SameBuckets.{same_buckets_tells, same_buckets_self}
use Rattle.nk_group.specs.Groups.{with_list, taken, target_in_groups, rows_after, lists_after, numbered, AreKept, GroupsKeepBuckets, GroupsDiffer}

-- equal numbers pass
here_is : (n m : ℕ) → n ≡ m → (n == m) ≡ true
here_is n m e = grind (arith, nat_tests, e)

-- a lesser number fails
other_is : (n m : ℕ) → n < m → (n == m) ≡ false
other_is n m h = grind (arith, nat_tests, h)

-- the group of a list that was taken, whatever was taken later
found :
    (bs : List Bucket) (ls more : List (List Bucket)) (n m : ℕ) → list_any (same_buckets bs) ls ≡ true
    → m ≡ position_or_len (same_buckets bs) ls + n → buckets_in (numbered n (ls ++ more)) m ≡ bs
found bs [] more n m h e = absurd cc
found bs (x ∷ xs) more n m h e = by (same_buckets bs x) refl h e (λ t k. found bs xs more (n + 1) m t k)
  where
    by :
        (b : Bool) → same_buckets bs x ≡ b → (b || list_any (same_buckets bs) xs) ≡ true
        → m ≡ cond (not b) (1 + position_or_len (same_buckets bs) xs) 0 + n
        → (list_any (same_buckets bs) xs ≡ true → m ≡ position_or_len (same_buckets bs) xs + (n + 1) → buckets_in (numbered (n + 1) (xs ++ more)) m ≡ bs)
        → cond (n == m) x (buckets_in (numbered (n + 1) (xs ++ more)) m) ≡ bs
    by true s t k ih = ap (λ b. cond b x (buckets_in (numbered (n + 1) (xs ++ more)) m)) (here_is n m (omega (arith, k))) ∙ sym (same_buckets_tells bs x s)
    by false s t k ih = ap (λ b. cond b x (buckets_in (numbered (n + 1) (xs ++ more)) m)) (other_is n m (omega (arith, k))) ∙ ih t (omega (arith, k))

-- lists are taken at the end alone
pub record Extends (ls more : List (List Bucket)) : Type 0 where
  pub rest : List (List Bucket)
  pub is : more ≡ ls ++ rest

-- a list more stands at the end
with_extends : (ls : List (List Bucket)) (bs : List Bucket) → Extends ls (with_list ls bs)
with_extends ls bs = by (list_any (same_buckets bs) ls)
  where
    by : (b : Bool) → Extends ls (cond b ls (ls ++ bs ∷ []))
    by true = record { rest = []; is = sym (append-nil ls) }
    by false = record { rest = bs ∷ []; is = refl }

-- a taken list does
taken_extends : (ls : List (List Bucket)) (bs : List Bucket) → Extends ls (taken ls bs)
taken_extends ls [] = record { rest = []; is = sym (append-nil ls) }
taken_extends ls (b ∷ []) = record { rest = []; is = sym (append-nil ls) }
taken_extends ls (b ∷ c ∷ bs) = with_extends ls (b ∷ c ∷ bs)

-- all that are taken do
after_extends : (ls : List (List Bucket)) (ps : List Plain) → Extends ls (lists_after ls ps)
after_extends ls [] = record { rest = []; is = sym (append-nil ls) }
after_extends ls (p ∷ ps) =
    let one = taken_extends ls p.buckets in
    let more = after_extends (taken ls p.buckets) ps in
    record { rest = one.rest ++ more.rest; is = more.is ∙ ap (λ l. l ++ more.rest) one.is ∙ append_assoc ls one.rest more.rest }

-- the last list is found
any_last :
    (bs : List Bucket) (ls : List (List Bucket)) → list_any (same_buckets bs) (ls ++ bs ∷ []) ≡ true
any_last bs [] = ap (λ b. b || false) (same_buckets_self bs)
any_last bs (x ∷ xs) = by (same_buckets bs x) (any_last bs xs)
  where
    by :
        (b : Bool) → list_any (same_buckets bs) (xs ++ bs ∷ []) ≡ true
        → (b || list_any (same_buckets bs) (xs ++ bs ∷ [])) ≡ true
    by true e = refl
    by false e = e

-- the taken list is found
with_has :
    (ls : List (List Bucket)) (bs : List Bucket) → list_any (same_buckets bs) (with_list ls bs) ≡ true
with_has ls bs = by (list_any (same_buckets bs) ls) refl
  where
    by :
        (b : Bool) → list_any (same_buckets bs) ls ≡ b
        → list_any (same_buckets bs) (cond b ls (ls ++ bs ∷ [])) ≡ true
    by true e = e
    by false e = any_last bs ls

-- a row's target names its buckets
target_names :
    (ls rest : List (List Bucket)) (bs : List Bucket)
    → buckets_for (numbered 1 (taken ls bs ++ rest)) (target_in_groups (taken ls bs) bs) ≡ bs
target_names ls rest [] = refl
target_names ls rest (b ∷ []) = refl
target_names ls rest (b ∷ c ∷ bs) = found (b ∷ c ∷ bs) (with_list ls (b ∷ c ∷ bs)) rest 1 (position_or_len (same_buckets (b ∷ c ∷ bs)) (with_list ls (b ∷ c ∷ bs)) + 1) (with_has ls (b ∷ c ∷ bs)) refl

-- so do all rows
kept_from :
    (ls : List (List Bucket)) (ps : List Plain)
    → AreKept (numbered 1 (lists_after ls ps)) ps (rows_after ls ps)
kept_from ls [] = tt
kept_from ls (p ∷ ps) =
    let more = after_extends (taken ls p.buckets) ps in (
      refl,
      refl,
      ap (λ l. buckets_for (numbered 1 l) (target_in_groups (taken ls p.buckets) p.buckets)) more.is ∙ target_names ls more.rest p.buckets,
      kept_from (taken ls p.buckets) ps,
    )

-- each row keeps its priority, its matches and its buckets
pub groups_keep_buckets : GroupsKeepBuckets
groups_keep_buckets ps = kept_from [] ps

-- no list stands twice
abbrev AreDistinct : List (List Bucket) → Type 0
AreDistinct [] = Unit {0}
AreDistinct (bs ∷ ls) = (list_any (same_buckets bs) ls ≡ false) × AreDistinct ls

-- a test of sameness in either order
same_way : (xs ys : List Bucket) → same_buckets xs ys ≡ false → same_buckets ys xs ≡ false
same_way xs ys h = by (same_buckets ys xs) refl
  where
    by : (b : Bool) → same_buckets ys xs ≡ b → b ≡ false
    by true e = sym (same_buckets_self xs) ∙ ap (same_buckets xs) (sym (same_buckets_tells ys xs e)) ∙ h
    by false e = refl

-- neither passes, so not the first
or_left : (a b : Bool) → (a || b) ≡ false → a ≡ false
or_left true b e = e
or_left false b e = refl

-- nor the second
or_right : (a b : Bool) → (a || b) ≡ false → b ≡ false
or_right true b e = absurd cc
or_right false b e = e

-- no list with one more is the same
any_push :
    (x bs : List Bucket) (ls : List (List Bucket)) → list_any (same_buckets x) ls ≡ false
    → same_buckets x bs ≡ false → list_any (same_buckets x) (ls ++ bs ∷ []) ≡ false
any_push x bs [] h e = ap (λ b. b || false) e
any_push x bs (y ∷ ys) h e =
    ap (λ b. b || list_any (same_buckets x) (ys ++ bs ∷ [])) (or_left (same_buckets x y) (list_any (same_buckets x) ys) h) ∙ any_push x bs ys (or_right (same_buckets x y) (list_any (same_buckets x) ys) h) e

-- a new list is distinct from all
distinct_push :
    (ls : List (List Bucket)) (bs : List Bucket) → AreDistinct ls
    → list_any (same_buckets bs) ls ≡ false → AreDistinct (ls ++ bs ∷ [])
distinct_push [] bs d h = (refl, tt)
distinct_push (x ∷ xs) bs d h = (
  any_push x bs xs d.0 (same_way bs x (or_left (same_buckets bs x) (list_any (same_buckets bs) xs) h)),
  distinct_push xs bs d.1 (or_right (same_buckets bs x) (list_any (same_buckets bs) xs) h),
)

-- no list is taken twice
distinct_with :
    (ls : List (List Bucket)) (bs : List Bucket) → AreDistinct ls → AreDistinct (with_list ls bs)
distinct_with ls bs d = by (list_any (same_buckets bs) ls) refl
  where
    by : (b : Bool) → list_any (same_buckets bs) ls ≡ b → AreDistinct (cond b ls (ls ++ bs ∷ []))
    by true e = d
    by false e = distinct_push ls bs d e

-- nor by a row
distinct_taken :
    (ls : List (List Bucket)) (bs : List Bucket) → AreDistinct ls → AreDistinct (taken ls bs)
distinct_taken ls [] d = d
distinct_taken ls (b ∷ []) d = d
distinct_taken ls (b ∷ c ∷ bs) d = distinct_with ls (b ∷ c ∷ bs) d

-- nor by all rows
distinct_after :
    (ls : List (List Bucket)) (ps : List Plain) → AreDistinct ls → AreDistinct (lists_after ls ps)
distinct_after ls [] d = d
distinct_after ls (p ∷ ps) d = distinct_after (taken ls p.buckets) ps (distinct_taken ls p.buckets d)

-- a list that no other is the same as is another one
none_same :
    (bs : List Bucket) (ls : List (List Bucket)) → list_any (same_buckets bs) ls ≡ false
    → (x : List Bucket) → In ls x → bs ≢ x
none_same bs [] h x i = absurd i
none_same bs (y ∷ ys) h x i =
    ⊎_elim
    (λ e f. true_false (sym (same_buckets_self bs) ∙ ap (same_buckets bs) (f ∙ e) ∙ or_left (same_buckets bs y) (list_any (same_buckets bs) ys) h))
    (λ r. none_same bs ys (or_right (same_buckets bs y) (list_any (same_buckets bs) ys) h) x r)
    i
  where
    -- true is not false
    true_false : true ≡ false → ⊥
    true_false e = cc

-- the groups of lists have their buckets from among them
in_numbered : (n : ℕ) (ls : List (List Bucket)) (g : Group) → In (numbered n ls) g → In ls g.buckets
in_numbered n [] g i = absurd i
in_numbered n (bs ∷ ls) g i = ⊎_elim (λ e. inl (ap (λ (z : Group). z.buckets) e)) (λ r. inr (in_numbered (n + 1) ls g r)) i

-- no two of no groups
no_pairs : AllPairs (λ (a b : Group). a.buckets ≢ b.buckets) []
no_pairs i j d lt within = absurd (omega (arith, within))

-- the groups of distinct lists differ
numbered_differ :
    (n : ℕ) (ls : List (List Bucket)) → AreDistinct ls
    → AllPairs (λ (a b : Group). a.buckets ≢ b.buckets) (numbered n ls)
numbered_differ n [] d = no_pairs
numbered_differ n (bs ∷ ls) d =
    AllPairs-cons (λ (a b : Group). a.buckets ≢ b.buckets) record { number = n; buckets = bs } (numbered (n + 1) ls)
    (all_from_members (λ (b : Group). bs ≢ b.buckets) (numbered (n + 1) ls) (λ g i. none_same bs ls d.0 g.buckets (in_numbered (n + 1) ls g i)))
    (numbered_differ (n + 1) ls d.1)

-- no two groups have one bucket list
pub groups_differ : GroupsDiffer
groups_differ ps = numbered_differ 1 (lists_after [] ps) (distinct_after [] ps tt)
