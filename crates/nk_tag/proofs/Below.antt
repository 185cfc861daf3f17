-- The numbers of the sets of so many levels, level by level.
use Rattle.std.proofs.Common.{ℕ, zero, suc, ◌+◌, ◌<◌, ◌≤◌, ◌⊎◌, inl, inr, ⊎_elim, List, [], ◌∷◌, ◌++◌, length, length-take-le, get_or, take, refl, sym, subst, arith}
use Rattle.std.specs.Prelude.{AllPairs, Contains, slice_index_or}
use Rattle.std.proofs.lemmas.List.Elements.{Contains-append_left, Contains-append_right, Contains-append_cases, Contains-get_or}
use Rattle.std.proofs.lemmas.List.Kept.{AllPairs-cons}
use Rattle.nk_field.specs.Order.{IsListedBefore}
use Rattle.nk_field.proofs.Lists.{In, in_from_contains, contains_from_in, in_either, in_decided, Decided, numbers_decided, NoDup, no_dup_joined}
use Rattle.nk_field.proofs.Ascending.{first_before, rest_in_order, all_from_members}
use Rattle.nk_policy.specs.Labels.{IsWithoutDoubles, AtLeast}
use Rattle.nk_determ.specs.Pairs.{Named}
use Rattle.nk_tag.specs.Numbers.{IsNamedAt, IsFirstAt, IsNamedBefore, AreInOrder}
use Rattle.nk_tag.specs.Steps.{IsAdded, AreBelow}
use Rattle.nk_determ.proofs.Naming.{named_decided}

-- no list stands before itself
never_before : (xs : List ℕ) → IsListedBefore xs xs → ⊥
never_before [] h = h
never_before (x ∷ xs) h = ⊎_elim (λ lt. omega (arith, lt)) (λ r. never_before xs r.1) h

-- elements in an order in which none is before itself have no doubles
no_dup_from : {X : Type 0} (R : X → X → Type 0) → ((x : X) → R x x → ⊥) → (xs : List X) → AllPairs R xs → NoDup xs
no_dup_from R never [] h = tt
no_dup_from R never (x ∷ xs) h = (λ i. never x (first_before R x xs h x i), no_dup_from R never xs (rest_in_order R x xs h))

-- in the definitions' words
without_doubles : {X : Type 0} (xs : List X) → NoDup xs → IsWithoutDoubles xs
without_doubles [] a = tt
without_doubles (x ∷ xs) a = (λ c. a.0 (in_from_contains xs x c), without_doubles xs a.1)

-- and back
no_dup_of : {X : Type 0} (xs : List X) → IsWithoutDoubles xs → NoDup xs
no_dup_of [] w = tt
no_dup_of (x ∷ xs) w = (λ i. w.0 (contains_from_in xs x i), no_dup_of xs w.1)

-- a front has no doubles either
front_no_dup : {X : Type 0} (n : ℕ) (xs : List X) → NoDup xs → NoDup (take n xs) × ((x : X) → In (take n xs) x → In xs x)
front_no_dup zero xs a = (tt, λ x i. absurd i)
front_no_dup (suc n) [] a = (tt, λ x i. absurd i)
front_no_dup (suc n) (x ∷ xs) a =
    let r = front_no_dup n xs a.1 in
    (((λ i. a.0 (r.1 x i)), r.0), λ y i. ⊎_elim (λ e. inl e) (λ k. inr (r.1 y k)) i)

-- two lists in order, each of the first before each of the second, are in order joined
pairs_joined : {X : Type 0} (R : X → X → Type 0) (xs ys : List X) → AllPairs R xs → AllPairs R ys
    → ((x y : X) → In xs x → In ys y → R x y) → AllPairs R (xs ++ ys)
pairs_joined R [] ys a b cross = b
pairs_joined R (x ∷ xs) ys a b cross =
    AllPairs-cons R x (xs ++ ys)
    (all_from_members (λ y. R x y) (xs ++ ys) (λ y i.
    ⊎_elim (λ k. first_before R x xs a y k) (λ k. cross x y (inl refl) k) (in_either xs ys y i)))
    (pairs_joined R xs ys (rest_in_order R x xs a) b (λ y z i k. cross y z (inr i) k))

-- an order of members of a list that gives another one
pairs_with : {X : Type 0} (R S : X → X → Type 0) (xs : List X) → AllPairs R xs
    → ((x y : X) → In xs x → In xs y → R x y → S x y) → AllPairs S xs
pairs_with R S xs h f i j d lt less =
    let before : i < length xs = omega (arith, lt, less) in
    f (get_or xs i d) (get_or xs j d)
    (in_from_contains xs (get_or xs i d) (Contains-get_or xs i d before))
    (in_from_contains xs (get_or xs j d) (Contains-get_or xs j d less))
    (h i j d lt less)

-- the first level of so many that names a set, if there is one
search_first : (levels : ℕ → List (ℕ × ℕ)) (s n : ℕ)
    → ((j : ℕ) × (j < n) × IsFirstAt levels s j) ⊎ ((k : ℕ) → k < n → Named (levels k) s → ⊥)
search_first levels s zero = inr (λ k lt h. omega (arith, lt))
search_first levels s (suc n) = by (search_first levels s n) (named_decided (levels n) s)
  where
    by : ((j : ℕ) × (j < n) × IsFirstAt levels s j) ⊎ ((k : ℕ) → k < n → Named (levels k) s → ⊥)
        → Decided (Named (levels n) s)
        → ((j : ℕ) × (j < suc n) × IsFirstAt levels s j) ⊎ ((k : ℕ) → k < suc n → Named (levels k) s → ⊥)
    by (inl r) d = inl (r.0, omega (arith, r.1), r.2)
    by (inr none) (inl h) = inl (n, omega arith, record { named = h; first = none })
    by (inr none) (inr other) = inr (λ k lt h.
        ⊎_elim
        (λ e. other (subst (λ i. Named (levels i) s) e h))
        (λ ne. none k (omega (arith, lt, ne)) h)
        (numbers_decided k n))

-- the first level that names a set that is named
first_of : (levels : ℕ → List (ℕ × ℕ)) (s n : ℕ) → Named (levels n) s → (j : ℕ) × (j ≤ n) × IsFirstAt levels s j
first_of levels s n h =
    ⊎_elim
    (λ r. (r.0, omega (arith, r.1), r.2))
    (λ none. absurd (none n (omega arith) h))
    (search_first levels s (suc n))

-- one level more
pub below_more : (ss : List (List ℕ)) (levels : ℕ → List (ℕ × ℕ)) (n : ℕ) (r new : List ℕ) → AreBelow levels ss n r
    → IsAdded ss (levels n) r new → AreBelow levels ss (n + 1) new
below_more ss levels n r new b a = subst (λ l. AreBelow levels ss (n + 1) l) (sym a.is) record {
  exactly = λ s. (
    λ c.
        ⊎_elim
        (λ k. let h = (b.exactly s).0 k in (h.0, omega (arith, h.1), h.2))
        (λ k. (n, omega arith, ((a.which s).0 k).0))
        (Contains-append_cases r a.more s c),
    λ h. joined s h.0 h.1 h.2,
  );
  once = without_doubles (r ++ a.more)
      (no_dup_joined r a.more (no_dup_of r b.once) no_dup_more (λ s i k.
      ((a.which s).0 (contains_from_in a.more s k)).1 (contains_from_in r s i)));
  in_order = pairs_joined (IsNamedBefore levels ss) r a.more b.in_order
      (pairs_with (λ s t. IsListedBefore (slice_index_or ss s []) (slice_index_or ss t [])) (IsNamedBefore levels ss) a.more a.in_order
      (λ s t i k h. (n, n, new_first s i, new_first t k, inr (refl, h))))
      (λ s t i k.
      let h = (b.exactly s).0 (contains_from_in r s i) in
      let f = first_of levels s h.0 h.2 in
      (f.0, n, f.2, new_first t k, inl (omega (arith, f.1, h.1))));
}
  where
    new_first : (s : ℕ) → In a.more s → IsFirstAt levels s n
    new_first s i =
        let w = (a.which s).0 (contains_from_in a.more s i) in
        record { named = w.0; first = λ k lt h. w.1 ((b.exactly s).1 (k, lt, h)) }

    no_dup_more : NoDup a.more
    no_dup_more = no_dup_from (λ s t. IsListedBefore (slice_index_or ss s []) (slice_index_or ss t []))
        (λ s h. never_before (slice_index_or ss s []) h) a.more a.in_order

    joined : (s j : ℕ) → j < n + 1 → Named (levels j) s → Contains (r ++ a.more) s
    joined s j lt h =
        ⊎_elim
        (λ e.
        ⊎_elim
        (λ old. Contains-append_left r a.more s (contains_from_in r s old))
        (λ no.
        Contains-append_right r a.more s
        ((a.which s).1 (subst (λ k. Named (levels k) s) e h, λ c. no (in_from_contains r s c))))
        (in_decided numbers_decided r s))
        (λ ne. Contains-append_left r a.more s ((b.exactly s).1 (j, omega (arith, lt, ne), h)))
        (numbers_decided j n)

-- all levels that name a set
pub all_below : (ss : List (List ℕ)) (levels : ℕ → List (ℕ × ℕ)) (n : ℕ) (r : List ℕ) → ((j s : ℕ) → Named (levels j) s → j < n)
    → AreBelow levels ss n r → AreInOrder levels ss r
all_below ss levels n r many b = record {
  exactly = λ s. (
    λ c. let h = (b.exactly s).0 c in (h.0, h.2),
    λ h. (b.exactly s).1 (h.0, many h.0 s h.1, h.1),
  );
  once = b.once;
  in_order = b.in_order;
}

-- at least as many as are wanted
pub too_many : (ss : List (List ℕ)) (levels : ℕ → List (ℕ × ℕ)) (n : ℕ) (r : List ℕ) (most : ℕ) → AreBelow levels ss n r
    → most ≤ length r → AtLeast most (IsNamedAt levels)
too_many ss levels n r most b le =
    let f = front_no_dup most r (no_dup_of r b.once) in (
      take most r,
      length-take-le most r le,
      without_doubles (take most r) f.0,
      all_from_members (IsNamedAt levels) (take most r) (λ s i.
          let h = (b.exactly s).0 (contains_from_in r s (f.1 s i)) in (h.0, h.2)),
    )
