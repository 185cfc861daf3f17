-- Each tag set has one place in the list of the tag sets.
use Rattle.std.proofs.Common.{◌≡◌, ◌≢◌, ℕ, zero, suc, ◌<◌, inl, inr, ⊎_elim, Some, List, [], ◌∷◌, refl, sym, ap, subst, arith}
use Rattle.std.specs.Prelude.{AllPairs, slice_get}
use Rattle.nk_field.specs.Order.{IsListedBefore}
use Rattle.nk_field.proofs.Lists.{In, in_from_contains}
use Rattle.nk_field.proofs.Ascending.{first_before, rest_in_order}
use Rattle.nk_policy.specs.Policy.{Policy}
use Rattle.nk_policy.specs.Labels.{IsTagSet}
use Rattle.nk_policy.specs.Tags.{IsShortest, IsTagBefore, AreTags}

-- no list stands before itself
pub never_before : (xs : List ℕ) → IsListedBefore xs xs → ⊥
never_before [] h = h
never_before (x ∷ xs) h = ⊎_elim (λ lt. omega (arith, lt)) (λ r. never_before xs r.1) h

module _ (p : Policy) (Start : List ℕ → Type 0) where
  -- a set's least number of records is one
  no_less : (s : List ℕ) (m n : ℕ) → IsShortest p Start s m → IsShortest p Start s n → m < n → ⊥
  no_less s m n a b lt =
      let w = a.0 in
      b.1 w.0 w.1 w.2 w.3 w.4 w.5 (subst (λ i. i < n) (sym w.6) lt)

  -- nothing stands before itself
  pub never_itself : (s : List ℕ) → IsTagBefore p Start s s → ⊥
  never_itself s h =
      ⊎_elim (λ lt. no_less s h.0 h.1 h.2 h.3 lt) (λ r. never_before s r.1) h.4

-- an element at a place stands in the list
in_by_place : {X : Type 0} (xs : List X) (i : ℕ) (x : X) → slice_get xs i ≡ Some x → In xs x
in_by_place [] i x e = absurd cc
in_by_place (y ∷ ys) zero x e = inl (let f : y ≡ x = cc in sym f)
in_by_place (y ∷ ys) (suc i) x e = inr (in_by_place ys i x e)

-- where no element is before itself, each stands once
pub one_place :
    {X : Type 0} (R : X → X → Type 0) → ((x : X) → R x x → ⊥) → (xs : List X) → AllPairs R xs
    → (i j : ℕ) (x : X) → slice_get xs i ≡ Some x → slice_get xs j ≡ Some x → i ≡ j
one_place R never [] h i j x e f = absurd cc
one_place R never (y ∷ ys) h zero zero x e f = refl
one_place R never (y ∷ ys) h zero (suc j) x e f =
    let is : y ≡ x = cc in
    absurd (never y (subst (R y) (sym is) (first_before R y ys h x (in_by_place ys j x f))))
one_place R never (y ∷ ys) h (suc i) zero x e f =
    let is : y ≡ x = cc in
    absurd (never y (subst (R y) (sym is) (first_before R y ys h x (in_by_place ys i x e))))
one_place R never (y ∷ ys) h (suc i) (suc j) x e f =
    ap suc (one_place R never ys (rest_in_order R y ys h) i j x e f)

-- and an element has a place
pub place_of : {X : Type 0} (xs : List X) (x : X) → In xs x → (i : ℕ) × (slice_get xs i ≡ Some x)
place_of [] x h = absurd h
place_of (y ∷ ys) x h =
    ⊎_elim (λ e. (0, ap Some (sym e))) (λ r. let s = place_of ys x r in (suc s.0, s.1)) h

-- each tag set stands at a place, and a set that isn't empty at one place alone
pub record StandOnce (p : Policy) (Start : List ℕ → Type 0) (tags : List (List ℕ)) : Type 0 where
  pub stands : (s : List ℕ) → IsTagSet p Start s → (i : ℕ) × (slice_get tags i ≡ Some s)
  pub once : (s : List ℕ) (i j : ℕ) → s ≢ [] → slice_get tags i ≡ Some s → slice_get tags j ≡ Some s → i ≡ j

-- so it is in the list of the tag sets
pub tags_stand : (p : Policy) (Start : List ℕ → Type 0) (tags : List (List ℕ)) → AreTags p Start tags → StandOnce p Start tags
tags_stand p Start tags k = record {
  stands = λ s h. place_of tags s (in_from_contains tags s ((k.exactly s).1 h));
  once = λ s i j some e f. one_place (IsTagBefore p Start) (never_itself p Start) tags k.in_order i j s e f;
}
