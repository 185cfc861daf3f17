-- A list that is taken among the groups' lists, and its place.
use Rattle.std.proofs.Common.{◌≡◌, ℕ, ◌+◌, ◌<◌, Bool, true, false, cond, not, ◌&&◌, ◌||◌, List, [], ◌∷◌, ◌++◌, length, refl, sym, ◌∙◌, ap, arith, eqb}
use Rattle.std.specs.Bool.{Decides}
use Rattle.std.specs.List.{list_any, position_or_len}
use Rattle.std.specs.Cmp.Lexicographic.{pointwise, pointwise_decides}
use Rattle.std.proofs.lemmas.Bool.Decides.{Decides-eqb, Decides-and, Decides-like, same_from_decides}
use Rattle.indexmap.specs.IndexSet.{insert_key}
use Rattle.nk_table.specs.declared.Bucket.{Bucket}
use Rattle.nk_table.specs.declared.Exit.{Exit}
use Rattle.nk_table.specs.declared.Exit.TheVariants.{Back, Port}
use Rattle.nk_table.specs.declared.Target.TheVariants as target
use Rattle.nk_table.specs.contracts.BucketPartialEq.TheImpl as bucket_impl
use Rattle.nk_table.specs.contracts.ExitPartialEq.TheImpl as exit_impl
use Rattle.nk_table.specs.Buckets.{same_buckets}
use Rattle.nk_table.proofs.SameBuckets.{same_buckets_tells, same_buckets_self}
use Rattle.nk_group.specs.Groups.{taken, target_in_groups}

-- the test of two assignments decides
pair_decides : (p q : ℕ × ℕ) → Decides (eqb p.0 q.0 && eqb p.1 q.1) (p ≡ q)
pair_decides p q = Decides-like _ (λ (h : (p.0 ≡ q.0) × (p.1 ≡ q.1)) i. (h.0 i, h.1 i)) (λ e. (ap (λ r. r.0) e, ap (λ r. r.1) e)) (Decides-and _ _ (Decides-eqb p.0 q.0) (Decides-eqb p.1 q.1))

-- the test of two exits does
exit_decides : (a b : Exit) → Decides (exit_impl.ghosts.eq a b) (a ≡ b)
exit_decides Back Back = (λ e. refl, λ e. refl)
exit_decides Back (Port n) = (λ e. cc, λ e. cc)
exit_decides (Port m) Back = (λ e. cc, λ e. cc)
exit_decides (Port m) (Port n) = Decides-like _ (λ (h : m ≡ n). ap Port h) (λ e. cc) (Decides-eqb m n)

-- the test of two buckets does
bucket_decides : (a b : Bucket) → Decides (bucket_impl.ghosts.eq a b) (a ≡ b)
bucket_decides a b =
    Decides-like _ (λ (h : (a.sets ≡ b.sets) × (a.exit ≡ b.exit)) i. record { sets = h.0 i; exit = h.1 i }) (λ e. (ap (λ (o : Bucket). o.sets) e, ap (λ (o : Bucket). o.exit) e))
    (Decides-and _ _ (pointwise_decides pair_decides a.sets b.sets) (exit_decides a.exit b.exit))

-- `==` of bucket lists is the test of the definitions
pub equal_is : (xs ys : List Bucket) → pointwise bucket_impl.ghosts.eq xs ys ≡ same_buckets xs ys
equal_is xs ys =
    same_from_decides _ _ (pointwise_decides bucket_decides xs ys) (λ e. same_buckets_tells xs ys e, λ e. ap (same_buckets xs) (sym e) ∙ same_buckets_self xs)

-- two tests that agree find alike
any_same :
    {A : Type 0} (p q : A → Bool) (xs : List A) → ((x : A) → p x ≡ q x) → list_any p xs ≡ list_any q xs
any_same p q [] e = refl
any_same p q (x ∷ xs) e = cc (e x, any_same p q xs e)

-- and at the same place
place_same :
    {A : Type 0} (p q : A → Bool) (xs : List A) → ((x : A) → p x ≡ q x)
    → position_or_len p xs ≡ position_or_len q xs
place_same p q [] e = refl
place_same p q (x ∷ xs) e = ap (λ b. cond (not b) (1 + position_or_len p xs) 0) (e x) ∙ ap (λ n. cond (not (q x)) (1 + n) 0) (place_same p q xs e)

-- several buckets are taken
pub taken_is :
    (ls : List (List Bucket)) (bs : List Bucket) → 1 < length bs
    → insert_key (pointwise bucket_impl.ghosts.eq) ls bs ≡ taken ls bs
taken_is ls [] h = absurd (omega arith)
taken_is ls (b ∷ []) h = absurd (omega arith)
taken_is ls (b ∷ c ∷ bs) h =
    ap (λ t. cond t ls (ls ++ (b ∷ c ∷ bs) ∷ [])) (any_same (pointwise bucket_impl.ghosts.eq (b ∷ c ∷ bs)) (same_buckets (b ∷ c ∷ bs)) ls (λ x. equal_is (b ∷ c ∷ bs) x))

-- the place of a list that was not there is the last one
last_place :
    {A : Type 0} (p : A → Bool) (xs : List A) (x : A) → p x ≡ true → list_any p xs ≡ false
    → position_or_len p (xs ++ x ∷ []) ≡ position_or_len p xs
last_place p [] x h n = ap (λ b. cond (not b) 1 0) h
last_place p (y ∷ ys) x h n = by (p y) (list_any p ys) n (λ m. last_place p ys x h m)
  where
    by :
        (b t : Bool) → (b || t) ≡ false
        → (t ≡ false → position_or_len p (ys ++ x ∷ []) ≡ position_or_len p ys)
        → cond (not b) (1 + position_or_len p (ys ++ x ∷ [])) 0 ≡ cond (not b) (1 + position_or_len p ys) 0
    by true t m ih = refl
    by false t m ih = ap (λ k. 1 + k) (ih m)

-- a list is found where it was put
place_in :
    {A : Type 0} (p : A → Bool) (xs : List A) (x : A) → p x ≡ true → (b : Bool) → list_any p xs ≡ b
    → position_or_len p xs ≡ position_or_len p (cond b xs (xs ++ x ∷ []))
place_in p xs x h true n = refl
place_in p xs x h false n = sym (last_place p xs x h n)

-- the target of several buckets is the group of their list
pub target_is :
    (ls : List (List Bucket)) (bs : List Bucket) (n : ℕ) → 1 < length bs
    → n ≡ position_or_len (pointwise bucket_impl.ghosts.eq bs) ls
    → target.Group (n + 1) ≡ target_in_groups (taken ls bs) bs
target_is ls [] n h e = absurd (omega arith)
target_is ls (b ∷ []) n h e = absurd (omega arith)
target_is ls (b ∷ c ∷ bs) n h e =
    let all = b ∷ c ∷ bs in
    ap (λ m. target.Group (m + 1))
    (e ∙ place_same (pointwise bucket_impl.ghosts.eq all) (same_buckets all) ls (λ x. equal_is all x)
    ∙ place_in (same_buckets all) ls all (same_buckets_self all) (list_any (same_buckets all) ls) refl)
