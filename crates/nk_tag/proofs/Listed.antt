-- Sets that are sorted by their members stand in dictionary order; and sets that are put in after others.
use Rattle.std.proofs.Common.{◌≡◌, ℕ, suc, ◌+◌, ◌<◌, ◌≤◌, ◌⊎◌, Bool, true, false, cond, ◌||◌, leb, eqb, inl, inr, ⊎_elim, List, [], ◌∷◌, ◌++◌, get_or, append_assoc, append-nil, refl, sym, ap, subst, ◌∙◌, arith}
use Rattle.std.specs.Prelude.{map, AllPairs, nat_eq, sum_by, if◌then◌else◌}
use Rattle.std.specs.List.{list_any}
use Rattle.std.specs.List.Sorted.{IsPermutation, IsSorted}
use Rattle.std.specs.Cmp.{IsTotalOrder, nat_cmp_total, then_total, on_total}
use Rattle.std.specs.Cmp.Lexicographic.{slice_cmp, lists_total}
use Rattle.std.specs.Ordering.{nat_cmp, ordering_then, is_lt}
use Rattle.std.specs.declared.cmp.Ordering.TheVariants.{Less, Equal}
use Rattle.std.proofs.lemmas.Bool.Decides.{leb_tells, eqb_tells, nat_tests}
use Rattle.std.proofs.lemmas.List.Sorted.{ranks_by, sorted_far, sum_by-IsPermutation}
use Rattle.std.proofs.lemmas.List.Sums.{sum_by-cons}
use Rattle.std.proofs.lemmas.List.Kept.{AllPairs-cons}
use Rattle.indexmap.specs.IndexSet.{insert_key, insert_all}
use Rattle.nk_field.specs.Order.{IsListedBefore}
use Rattle.nk_field.proofs.Lists.{In, in_mapped, in_either, NoDup}
use Rattle.nk_field.proofs.Ascending.{all_from_members}
use Rattle.nk_policy.proofs.Tests.{false_true, same_number}
use Rattle.nk_tag.specs.Steps.{set_cmp}

-- of two numbers the lesser is less
less_is : (x y : ℕ) → x < y → nat_cmp x y ≡ Less
less_is x y lt = grind (arith, nat_tests)

-- equal ones are equal
same_is : (x y : ℕ) → x ≡ y → nat_cmp y x ≡ Equal
same_is x y e = grind (arith, nat_tests)

-- a list that isn't after another one, nor that one, is listed before it
listed : (xs ys : List ℕ) → (slice_cmp nat_cmp ys xs ≡ Less → ⊥) → (xs ≡ ys → ⊥) → IsListedBefore xs ys
listed [] [] n e = e refl
listed [] (y ∷ ys) n e = tt
listed (x ∷ xs) [] n e = n refl
listed (x ∷ xs) (y ∷ ys) n e = by (leb_tells (suc x) y) (eqb_tells x y) (λ f g. listed xs ys f g)
  where
    by : ((leb (suc x) y ≡ true) × (suc x ≤ y)) ⊎ ((leb (suc x) y ≡ false) × (y < suc x))
        → ((eqb x y ≡ true) × (x ≡ y)) ⊎ ((eqb x y ≡ false) × (x ≡ y → ⊥))
        → ((slice_cmp nat_cmp ys xs ≡ Less → ⊥) → (xs ≡ ys → ⊥) → IsListedBefore xs ys) → IsListedBefore (x ∷ xs) (y ∷ ys)
    by (inl lt) s later = inl (omega (arith, lt.1))
    by (inr least) (inl same) later = inr (
      same.1,
      later
          (λ k. n (ap (λ r. ordering_then r (slice_cmp nat_cmp ys xs)) (same_is x y same.1) ∙ k))
          (λ f. e (ap (λ z. z ∷ xs) same.1 ∙ ap (λ l. y ∷ l) f)),
    )
    by (inr least) (inr other) later =
        let lt : y < x = omega (arith, least.1, other.1) in
        absurd (n (ap (λ r. ordering_then r (slice_cmp nat_cmp ys xs)) (less_is y x lt)))

-- the order of sets is total
set_total : IsTotalOrder set_cmp
set_total = then_total (on_total (λ (x : List ℕ × ℕ). x.0) (lists_total nat_cmp_total)) (on_total (λ (x : List ℕ × ℕ). x.1) nat_cmp_total)

-- the number of a set
abbrev pub number_of : List ℕ × ℕ → ℕ
number_of x = x.1

-- numbers without doubles are different ones
pub no_dup_pairs : (xs : List (List ℕ × ℕ)) → NoDup (map number_of xs) → AllPairs (λ x y. x.1 ≡ y.1 → ⊥) xs
no_dup_pairs [] a = λ i j d lt less. absurd (omega (arith, less))
no_dup_pairs (x ∷ xs) a =
    AllPairs-cons (λ y z. y.1 ≡ z.1 → ⊥) x xs
    (all_from_members (λ z. x.1 ≡ z.1 → ⊥) xs (λ z i e. a.0 (subst (λ n. In (map number_of xs) n) (sym e) (in_mapped number_of xs z i))))
    (no_dup_pairs xs a.1)

-- sets that are sorted and whose members differ stand in dictionary order
pub sorted_listed : (xs : List (List ℕ × ℕ)) → IsSorted set_cmp xs → AllPairs (λ x y. x.0 ≡ y.0 → ⊥) xs
    → AllPairs (λ x y. IsListedBefore x.0 y.0) xs
sorted_listed xs up apart i j d lt less =
    let le : i ≤ j = omega (arith, lt) in
    let far : is_lt (set_cmp (get_or xs j d) (get_or xs i d)) ≡ false =
    sorted_far (λ x y. is_lt (set_cmp x y)) (ranks_by set_total (λ (x : List ℕ × ℕ). x)) xs up i j d le less in
    listed (get_or xs i d).0 (get_or xs j d).0
    (λ k. false_true (sym far ∙ ap (λ r. is_lt (ordering_then r (nat_cmp (get_or xs j d).1 (get_or xs i d).1))) k))
    (apart i j d lt less)

-- 1 where the test holds
abbrev one_if : Bool → ℕ
one_if b = cond b 1 0

-- how often a number stands among the sets
abbrev tally : ℕ → List (List ℕ × ℕ) → ℕ
tally s xs = sum_by (λ x. one_if (eqb x.1 s)) xs

-- one more set
tally_cons : (s : ℕ) (x : List ℕ × ℕ) (xs : List (List ℕ × ℕ)) → tally s (x ∷ xs) ≡ one_if (eqb x.1 s) + tally s xs
tally_cons s x xs = sum_by-cons (λ (y : List ℕ × ℕ). one_if (eqb y.1 s)) x xs

-- what one set adds
one_of : (b : Bool) → b ≡ true → one_if b ≡ 1
one_of b e = ap one_if e

none_of : (b : Bool) → b ≡ false → one_if b ≡ 0
none_of b e = ap one_if e

-- a number that no set has
not_tallied : (xs : List (List ℕ × ℕ)) (s : ℕ) → (In (map number_of xs) s → ⊥) → tally s xs ≡ 0
not_tallied [] s never = refl
not_tallied (x ∷ xs) s never =
    ⊎_elim
    (λ same. absurd (never (inl (sym same.1))))
    (λ other. omega (arith, tally_cons s x xs, none_of (eqb x.1 s) other.0, not_tallied xs s (λ i. never (inr i))))
    (eqb_tells x.1 s)

-- numbers without doubles stand at most once
tallied_once : (xs : List (List ℕ × ℕ)) (s : ℕ) → NoDup (map number_of xs) → tally s xs ≤ 1
tallied_once [] s a = omega arith
tallied_once (x ∷ xs) s a =
    ⊎_elim
    (λ same.
    let rest = not_tallied xs s (subst (λ n. In (map number_of xs) n → ⊥) same.1 a.0) in
    omega (arith, tally_cons s x xs, one_of (eqb x.1 s) same.0, rest))
    (λ other. omega (arith, tally_cons s x xs, none_of (eqb x.1 s) other.0, tallied_once xs s a.1))
    (eqb_tells x.1 s)

-- a number that a set has
tallied : (xs : List (List ℕ × ℕ)) (s : ℕ) → In (map number_of xs) s → 1 ≤ tally s xs
tallied [] s i = absurd i
tallied (x ∷ xs) s i = by (eqb_tells x.1 s) i (λ k. tallied xs s k)
  where
    by : ((eqb x.1 s ≡ true) × (x.1 ≡ s)) ⊎ ((eqb x.1 s ≡ false) × (x.1 ≡ s → ⊥)) → (s ≡ x.1) ⊎ In (map number_of xs) s
        → (In (map number_of xs) s → 1 ≤ tally s xs) → 1 ≤ tally s (x ∷ xs)
    by (inl same) i rest = omega (arith, tally_cons s x xs, one_of (eqb x.1 s) same.0)
    by (inr other) (inl e) rest = absurd (other.1 (sym e))
    by (inr other) (inr r) rest = let some = rest r in omega (arith, tally_cons s x xs, some)

-- numbers that stand at most once have no doubles
once_no_dup : (xs : List (List ℕ × ℕ)) → ((s : ℕ) → tally s xs ≤ 1) → NoDup (map number_of xs)
once_no_dup [] h = tt
once_no_dup (x ∷ xs) h = (
  λ i.
      let own : eqb x.1 x.1 ≡ true = same_number x.1 in
      omega (arith, h x.1, tally_cons x.1 x xs, one_of (eqb x.1 x.1) own, tallied xs x.1 i),
  once_no_dup xs (λ s. omega (arith, h s, tally_cons s x xs)),
)

-- a new order makes no doubles
pub no_dup_permuted : (xs ys : List (List ℕ × ℕ)) → IsPermutation xs ys → NoDup (map number_of xs) → NoDup (map number_of ys)
no_dup_permuted xs ys p a =
    once_no_dup ys (λ s. omega (arith, tallied_once xs s a, sum_by-IsPermutation (λ (y : List ℕ × ℕ). one_if (eqb y.1 s)) xs ys p))

-- whether a number is one of these
pub any_tells : (x : ℕ) (ks : List ℕ) → ((list_any (nat_eq x) ks ≡ true) × In ks x) ⊎ ((list_any (nat_eq x) ks ≡ false) × (In ks x → ⊥))
any_tells x [] = inr (refl, λ i. i)
any_tells x (k ∷ ks) = by (eqb_tells x k) (any_tells x ks)
  where
    by : ((eqb x k ≡ true) × (x ≡ k)) ⊎ ((eqb x k ≡ false) × (x ≡ k → ⊥))
        → ((list_any (nat_eq x) ks ≡ true) × In ks x) ⊎ ((list_any (nat_eq x) ks ≡ false) × (In ks x → ⊥))
        → ((list_any (nat_eq x) (k ∷ ks) ≡ true) × In (k ∷ ks) x) ⊎ ((list_any (nat_eq x) (k ∷ ks) ≡ false) × (In (k ∷ ks) x → ⊥))
    by (inl same) r = inl (ap (λ b. b || list_any (nat_eq x) ks) same.0, inl same.1)
    by (inr other) (inl r) = inl (ap (λ b. b || list_any (nat_eq x) ks) other.0 ∙ r.0, inr r.1)
    by (inr other) (inr r) = inr (ap (λ b. b || list_any (nat_eq x) ks) other.0 ∙ r.0, λ i. ⊎_elim other.1 r.1 i)

-- numbers that are new and have no doubles are put in after the others
pub inserted : (ks xs : List ℕ) → NoDup xs → ((x : ℕ) → In xs x → In ks x → ⊥) → insert_all nat_eq ks xs ≡ ks ++ xs
inserted ks [] a new = sym (append-nil ks)
inserted ks (x ∷ xs) a new =
    ap (λ l. insert_all nat_eq l xs) one
    ∙ inserted (ks ++ x ∷ []) xs a.1 (λ y i j. ⊎_elim (λ k. new y (inr i) k) (λ k. last y i k) (in_either ks (x ∷ []) y j))
    ∙ append_assoc ks (x ∷ []) xs
  where
    one : insert_key nat_eq ks x ≡ ks ++ x ∷ []
    one = ⊎_elim (λ r. absurd (new x (inl refl) r.1)) (λ r. ap (λ b. if b then ks else ks ++ x ∷ []) r.0) (any_tells x ks)

    last : (y : ℕ) → In xs y → In (x ∷ []) y → ⊥
    last y i (inl e) = a.0 (subst (λ z. In xs z) e i)
    last y i (inr k) = k
