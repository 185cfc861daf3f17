-- What is found in a list of entries, some of which stand in another one before it.
use Rattle.std.proofs.Common.{◌≡◌, ℕ, Bool, true, false, cond, eqb, List, [], ◌∷◌, ◌++◌, reverse, Option, Some, None, refl, sym, ap, subst, ◌∙◌, inl, inr}
use Rattle.std.specs.Map.{lookup}
use Rattle.std.specs.Option.{option_or}
use Rattle.std.proofs.lemmas.Bool.Decides.{eqb_tells}
use Rattle.std.proofs.lemmas.List.{reverse-append}

-- a test and its other side
eqb_turned : (a b : ℕ) → eqb a b ≡ eqb b a
eqb_turned a b =
    elim (eqb_tells a b) [
      | inl same ↦ subst (λ k. eqb a k ≡ eqb k a) same.1 refl
      | inr other ↦ elim (eqb_tells b a) [
        | inl same ↦ absurd (other.1 (sym same.1))
        | inr too ↦ other.0 ∙ sym too.0
      ]
    ]

eqb_same : (a : ℕ) → eqb a a ≡ true
eqb_same a = elim (eqb_tells a a) [ inl same ↦ same.0 | inr other ↦ absurd (other.1 refl) ]

module _ {X : Type 0} where
  cond_or : (b : Bool) (x : X) (o p q : Option X) → p ≡ option_or o q → cond b (Some x) p ≡ option_or (cond b (Some x) o) q
  cond_or true x o p q e = refl
  cond_or false x o p q e = e

  -- in two lists one finds what stands in the first, else what stands in the second
  pub lookup_both : (t : ℕ → Bool) (xs ys : List (ℕ × X)) → lookup t (xs ++ ys) ≡ option_or (lookup t xs) (lookup t ys)
  lookup_both t [] ys = refl
  lookup_both t (e ∷ xs) ys = cond_or (t e.0) e.1 (lookup t xs) (lookup t (xs ++ ys)) (lookup t ys) (lookup_both t xs ys)

  pub found_first : (d : ℕ) (r : X) (xs ys : List (ℕ × X)) → lookup (eqb d) xs ≡ Some r → lookup (eqb d) (xs ++ ys) ≡ Some r
  found_first d r xs ys e = lookup_both (eqb d) xs ys ∙ ap (λ o. option_or o (lookup (eqb d) ys)) e

  pub found_then : (d : ℕ) (xs ys : List (ℕ × X)) → lookup (eqb d) xs ≡ None → lookup (eqb d) (xs ++ ys) ≡ lookup (eqb d) ys
  found_then d xs ys e = lookup_both (eqb d) xs ys ∙ ap (λ o. option_or o (lookup (eqb d) ys)) e

  -- an entry more after those that are searched from the back
  pub few_put : (d : ℕ) (r : X) (few more : List (ℕ × X)) (q : ℕ) →
      lookup (eqb q) (reverse (few ++ (d, r) ∷ []) ++ more) ≡ cond (eqb d q) (Some r) (lookup (eqb q) (reverse few ++ more))
  few_put d r few more q =
      ap (λ ys. lookup (eqb q) (ys ++ more)) (reverse-append few ((d, r) ∷ []))
      ∙ ap (λ b. cond b (Some r) (lookup (eqb q) (reverse few ++ more))) (eqb_turned q d)

  -- an entry more among the others, of a diagram that none of the first is of
  pub more_put : (d : ℕ) (r : X) (few more new : List (ℕ × X)) → lookup (eqb d) few ≡ None →
      ((q : ℕ) → lookup (eqb q) new ≡ cond (eqb d q) (Some r) (lookup (eqb q) more)) →
      (q : ℕ) → lookup (eqb q) (few ++ new) ≡ cond (eqb d q) (Some r) (lookup (eqb q) (few ++ more))
  more_put d r few more new none put q =
      elim (eqb_tells d q) [
        | inl same ↦
            found_then q few new (subst (λ k. lookup (eqb k) few ≡ None) same.1 none)
            ∙ put q ∙ ap (λ b. cond b (Some r) (lookup (eqb q) more)) same.0
            ∙ sym (ap (λ b. cond b (Some r) (lookup (eqb q) (few ++ more))) same.0)
        | inr other ↦
            lookup_both (eqb q) few new
            ∙ ap (option_or (lookup (eqb q) few)) (put q ∙ ap (λ b. cond b (Some r) (lookup (eqb q) more)) other.0)
            ∙ sym (lookup_both (eqb q) few more)
            ∙ sym (ap (λ b. cond b (Some r) (lookup (eqb q) (few ++ more))) other.0)
      ]

  -- what was put in is found
  pub put_there : (d : ℕ) (r : X) (old new : List (ℕ × X)) →
      ((q : ℕ) → lookup (eqb q) new ≡ cond (eqb d q) (Some r) (lookup (eqb q) old)) → lookup (eqb d) new ≡ Some r
  put_there d r old new put = put d ∙ ap (λ b. cond b (Some r) (lookup (eqb d) old)) (eqb_same d)
