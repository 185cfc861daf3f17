-- The tag sets of a policy in order are one list.
use Rattle.std.proofs.Common.{◌≡◌, ℕ, ◌<◌, ◌⊎◌, inl, inr, ⊎_elim, List, sym, subst, arith}
use Rattle.std.proofs.lemmas.Bool.Decides.{leb_tells}
use Rattle.nk_field.proofs.Lists.{in_from_contains, contains_from_in}
use Rattle.nk_policy.specs.Policy.{Policy}
use Rattle.nk_policy.specs.Tags.{IsShortest, IsTagBefore, AreTags}
use Rattle.nk_compile.proofs.Orders.{listed_once, same_sorted}

-- one of two numbers is less, or they are equal
pub three : (a b : ℕ) → (a < b) ⊎ ((b < a) ⊎ (a ≡ b))
three a b =
    ⊎_elim
    (λ le. ⊎_elim (λ ge. inr (inr (omega (arith, le.1, ge.1)))) (λ lt. inl lt.1) (leb_tells b a))
    (λ lt. inr (inl lt.1))
    (leb_tells a b)

module _ (p : Policy) (Start : List ℕ → Type 0) where
  -- the least number of records is one
  no_less : (s : List ℕ) (m n : ℕ) → IsShortest p Start s m → IsShortest p Start s n → m < n → ⊥
  no_less s m n a b lt =
      let w = a.0 in
      b.1 w.0 w.1 w.2 w.3 w.4 w.5 (subst (λ i. i < n) (sym w.6) lt)

  one_shortest : (s : List ℕ) (m n : ℕ) → IsShortest p Start s m → IsShortest p Start s n → m ≡ n
  one_shortest s m n h k =
      ⊎_elim
      (λ lt. absurd (no_less s m n h k lt))
      (λ rest. ⊎_elim (λ lt. absurd (no_less s n m k h lt)) (λ e. e) rest)
      (three m n)

  -- of two tag sets at most one comes before the other
  tag_once : (s t : List ℕ) → IsTagBefore p Start s t → IsTagBefore p Start t s → ⊥
  tag_once s t h k =
      let e = one_shortest s h.0 k.1 h.2 k.3 in
      let f = one_shortest t h.1 k.0 h.3 k.2 in
      ⊎_elim
      (λ lt. ⊎_elim (λ less. omega (arith, e, f, lt, less)) (λ q. omega (arith, e, f, lt, q.0)) k.4)
      (λ q. ⊎_elim (λ less. omega (arith, e, f, q.0, less)) (λ r. listed_once s t q.1 r.1) k.4)
      h.4

  -- the list of the tag sets is one
  pub one_tag_list : (xs ys : List (List ℕ)) → AreTags p Start xs → AreTags p Start ys → xs ≡ ys
  one_tag_list xs ys h k =
      same_sorted (IsTagBefore p Start) tag_once xs ys h.in_order k.in_order
      (λ s i. in_from_contains ys s ((k.exactly s).1 ((h.exactly s).0 (contains_from_in xs s i))))
      (λ s i. in_from_contains xs s ((h.exactly s).1 ((k.exactly s).0 (contains_from_in ys s i))))
