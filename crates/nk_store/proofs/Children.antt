-- The children of a node gone through in turn, and the else-child.
use Rattle.std.proofs.Common.{◌≡◌, ℕ, zero, suc, ◌+◌, ◌-◌, ◌<◌, ◌≤◌, Bool, true, false, cond, eqb, inl, inr, List, [], ◌∷◌, length, drop, Some, refl, sym, ap, subst, ◌∙◌, arith, get_or, drop-cons, add-one}
use Rattle.std.specs.Prelude.{nat_lt}
use Rattle.std.specs.Map.{lookup}
use Rattle.std.proofs.lemmas.Bool.Decides.{nat_tests, eqb_tells}
use Rattle.nk_store.specs.Nodes.{child_at, Rises, Each}
use Rattle.nk_store.proofs.Same.{child-first, child-rest}
use Rattle.nk_store.specs.ElseChild.{Span, spans, size_of, largest, else_of, or_none, kept}

-- the rest of a list from an element on
pub rest_is :
    {A : Type 0} (xs : List A) (i : ℕ) (x : A) → i < length xs → x ≡ get_or xs i x
    → drop i xs ≡ x ∷ drop (i + 1) xs
rest_is xs i x h e = drop-cons xs i x h ∙ ap (λ y. y ∷ drop (suc i) xs) (sym e) ∙ ap (λ n. x ∷ drop n xs) (sym (add-one i))

-- sizes of children
pub kept_put :
    (old new : List (ℕ × ℕ)) (k n : ℕ)
    → ((q : ℕ) → lookup (eqb q) new ≡ cond (eqb k q) (Some n) (lookup (eqb q) old)) → (q : ℕ)
    → kept new q ≡ cond (eqb k q) n (kept old q)
kept_put old new k n u q = ap or_none (u q) ∙ by (eqb k q)
  where
    by : (b : Bool) → or_none (cond b (Some n) (lookup (eqb q) old)) ≡ cond b n (kept old q)
    by true = refl
    by false = refl

-- no count is above the values so far
pub below_step :
    (old new : List (ℕ × ℕ)) (k from next : ℕ) → ((c : ℕ) → kept old c ≤ from) → from ≤ next
    → ((q : ℕ) → kept new q ≡ cond (eqb k q) (kept old k + (next - from)) (kept old q)) → (c : ℕ)
    → kept new c ≤ next
below_step old new k from next h l u c = rw (u c) (by (eqb k c))
  where
    by : (b : Bool) → cond b (kept old k + (next - from)) (kept old c) ≤ next
    by true = omega (arith, h k, l)
    by false = omega (arith, h c, l)

-- the counts with one more part
pub counts_step :
    (old new : List (ℕ × ℕ)) (k end from : ℕ) (ps : List (ℕ × ℕ))
    → ((q : ℕ) → kept new q ≡ cond (eqb k q) (kept old k + (end + 1 - from)) (kept old q)) → (c : ℕ)
    → kept new c + size_of c (spans ps (end + 1)) ≡ kept old c + size_of c (spans ((end, k) ∷ ps) from)
counts_step old new k end from ps u c = ap (λ n. n + size_of c (spans ps (end + 1))) (u c) ∙ by
  where
    by : cond (eqb k c) (kept old k + (end + 1 - from)) (kept old c) + size_of c (spans ps (end + 1)) ≡ kept old c + (cond (eqb c k) (end + 1 - from) 0 + size_of c (spans ps (end + 1)))
    by = elim (eqb_tells k c) [
      | inl same ↦
          let back : eqb c k ≡ true = grind (arith, nat_tests, same.1) in
          ap (λ b. cond b (kept old k + (end + 1 - from)) (kept old c) + size_of c (spans ps (end + 1))) same.0
          ∙ ap (λ z. kept old z + (end + 1 - from) + size_of c (spans ps (end + 1))) same.1
          ∙ omega arith
          ∙ sym (ap (λ b. kept old c + (cond b (end + 1 - from) 0 + size_of c (spans ps (end + 1)))) back)
      | inr other ↦
          let back : eqb c k ≡ false = grind (arith, nat_tests, other.1) in
          ap (λ b. cond b (kept old k + (end + 1 - from)) (kept old c) + size_of c (spans ps (end + 1))) other.0
          ∙ omega arith
          ∙ sym (ap (λ b. kept old c + (cond b (end + 1 - from) 0 + size_of c (spans ps (end + 1)))) back)
    ]

-- the larger of two children by their sizes is the best so far
pub largest_step :
    (all : List Span) (best : ℕ) (p : ℕ × ℕ) (ps : List (ℕ × ℕ)) (r : ℕ)
    → r ≡ cond (nat_lt (size_of best all) (size_of p.1 all)) p.1 best
    → largest all r ps ≡ largest all best (p ∷ ps)
largest_step all best p ps r e = ap (λ z. largest all z ps) e ∙ by (nat_lt (size_of best all) (size_of p.1 all))
  where
    by :
        (b : Bool)
        → largest all (cond b p.1 best) ps ≡ cond b (largest all p.1 ps) (largest all best ps)
    by true = refl
    by false = refl

-- the larger of two children by their kept sizes is the best so far
pub larger_step :
    (all : List Span) (counts : List (ℕ × ℕ)) (best : ℕ) (p : ℕ × ℕ) (ps : List (ℕ × ℕ)) (r : ℕ)
    → ((q : ℕ) → kept counts q ≡ size_of q all)
    → r ≡ cond (nat_lt (kept counts best) (kept counts p.1)) p.1 best
    → largest all r ps ≡ largest all best (p ∷ ps)
larger_step all counts best p ps r k e =
    largest_step all best p ps r (e ∙ ap (λ x. cond (nat_lt x (kept counts p.1)) p.1 best) (k best) ∙ ap (λ x. cond (nat_lt (size_of best all) x) p.1 best) (k p.1))

-- what holds of each child holds of the largest
largest_has :
    (P : ℕ → Type 0) (all : List Span) (best : ℕ) (ps : List (ℕ × ℕ)) → P best → Each P ps
    → P (largest all best ps)
largest_has P all best [] h e = h
largest_has P all best (p ∷ ps) h e = by (nat_lt (size_of best all) (size_of p.1 all)) (largest_has P all p.1 ps e.0 e.1) (largest_has P all best ps h e.1)
  where
    by :
        (b : Bool) → P (largest all p.1 ps) → P (largest all best ps)
        → P (cond b (largest all p.1 ps) (largest all best ps))
    by true x y = x
    by false x y = y

-- what holds of each child holds of the else-child
pub else_has : (P : ℕ → Type 0) (ps : List (ℕ × ℕ)) → 0 < length ps → Each P ps → P (else_of ps)
else_has P [] h e = absurd (omega arith)
else_has P (p ∷ ps) h e = largest_has P (spans (p ∷ ps) 0) p.1 (p ∷ ps) e.0 e

-- what holds of each part holds of the rest
pub each_drop : (P : ℕ → Type 0) (ps : List (ℕ × ℕ)) (i : ℕ) → Each P ps → Each P (drop i ps)
each_drop P [] zero e = tt
each_drop P [] (suc i) e = tt
each_drop P (q ∷ qs) zero e = e
each_drop P (q ∷ qs) (suc i) e = each_drop P qs i e.1

-- a weaker property
pub each_of : (P Q : ℕ → Type 0) (ps : List (ℕ × ℕ)) → ((c : ℕ) → P c → Q c) → Each P ps → Each Q ps
each_of P Q [] f e = tt
each_of P Q (p ∷ ps) f e = (f p.1 e.0, each_of P Q ps f e.1)

-- what holds of each child holds of a part's
pub item_has :
    (P : ℕ → Type 0) (ps : List (ℕ × ℕ)) (i : ℕ) (p : ℕ × ℕ) → i < length ps → p ≡ get_or ps i p
    → Each P ps → P p.1
item_has P [] i p h e each = absurd (omega (arith, h))
item_has P (q ∷ ps) zero p h e each = subst (λ (x : ℕ × ℕ). P x.1) (sym e) each.0
item_has P (q ∷ ps) (suc i) p h e each = item_has P ps i p (omega (arith, h)) e each.1

-- what holds of the child at each value holds of each child
pub each_value :
    (P : ℕ → Type 0) (high from d : ℕ) (ps : List (ℕ × ℕ)) → Rises high from ps
    → ((v : ℕ) → from ≤ v → v ≤ high → P (child_at d ps v)) → Each P ps
each_value P high from d [] r f = tt
each_value P high from d (p ∷ ps) r f = (
  subst P (child-first d p ps p.0 (omega arith)) (f p.0 r.0 r.1),
  each_value P high (p.0 + 1) p.1 ps r.2 (λ v lo hi. subst P (child-rest d p ps v (omega (arith, lo))) (f v (omega (arith, lo, r.0)) hi)),
)
