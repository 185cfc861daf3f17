-- One act after another.
use Rattle.std.proofs.Common.{◌≡◌, ◌≢◌, ℕ, ◌+◌, ◌<◌, ◌≤◌, true, false, ltb, eqb, List, [], ◌∷◌, ◌++◌, drop, length, refl, sym, ◌∙◌, ap, subst, arith, set, ◌⊎◌, inl, inr}
use Rattle.std.proofs.lemmas.Bool.Decides.{nat_tests, eqb_tells, leb_tells}
use Rattle.std.proofs.lemmas.List.{set_comm, set-set, drop_all, append-nil}
use Rattle.nk_field.specs.Act.{applied, AscendsFrom, lay, act_then}

-- of two numbers one is less, or they are equal
pub order : (a b : ℕ) → (a < b) ⊎ ((a ≡ b) ⊎ (b < a))
order a b = elim (leb_tells a b) [
  | inl le ↦
      elim (eqb_tells a b) [
        | inl same ↦ inr (inl same.1)
        | inr other ↦ inl (omega (arith, le.1, other.1))
      ]
  | inr gt ↦ inr (inr gt.1)
]

-- where the first act's field is the lower one, its assignment comes first
pub lay-less : (s t : ℕ × ℕ) (ss ts : List (ℕ × ℕ)) (rest : List (ℕ × ℕ) → List (ℕ × ℕ)) → s.0 < t.0 →
    lay s ss rest (t ∷ ts) ≡ s ∷ rest (t ∷ ts)
lay-less s t ss ts rest h = let e : ltb s.0 t.0 ≡ true = grind (arith, nat_tests) in rw e refl

-- where both assign the field, the second act's assignment stands
pub lay-same : (s t : ℕ × ℕ) (ss ts : List (ℕ × ℕ)) (rest : List (ℕ × ℕ) → List (ℕ × ℕ)) → s.0 ≡ t.0 →
    lay s ss rest (t ∷ ts) ≡ t ∷ rest ts
lay-same s t ss ts rest h =
    let e : ltb s.0 t.0 ≡ false = grind (arith, nat_tests) in
    let k : eqb s.0 t.0 ≡ true = grind (arith, nat_tests) in
    rw (e, k) refl

-- where the second act's field is the lower one, its assignment comes first
pub lay-more : (s t : ℕ × ℕ) (ss ts : List (ℕ × ℕ)) (rest : List (ℕ × ℕ) → List (ℕ × ℕ)) → t.0 < s.0 →
    lay s ss rest (t ∷ ts) ≡ t ∷ lay s ss rest ts
lay-more s t ss ts rest h =
    let e : ltb s.0 t.0 ≡ false = grind (arith, nat_tests) in
    let k : eqb s.0 t.0 ≡ false = grind (arith, nat_tests) in
    rw (e, k) refl

-- the assignments laid under an ascending act ascend, where those after the first one do
lay_ascends : (s : ℕ × ℕ) (ss : List (ℕ × ℕ)) (rest : List (ℕ × ℕ) → List (ℕ × ℕ)) →
    ((low : ℕ) (h : List (ℕ × ℕ)) → AscendsFrom low ss → AscendsFrom low h → AscendsFrom low (rest h)) →
    (low : ℕ) (h : List (ℕ × ℕ)) → AscendsFrom low (s ∷ ss) → AscendsFrom low h →
    AscendsFrom low (lay s ss rest h)
lay_ascends s ss rest ih low [] a b = a
lay_ascends s ss rest ih low (t ∷ ts) a b =
    elim (order s.0 t.0) [
      | inl less ↦
          subst (AscendsFrom low) (sym (lay-less s t ss ts rest less))
          (a.0, ih (s.0 + 1) (t ∷ ts) a.1 (omega arith, b.1))
      | inr (inl same) ↦
          subst (AscendsFrom low) (sym (lay-same s t ss ts rest same))
          (b.0, ih (t.0 + 1) ts (subst (λ m. AscendsFrom (m + 1) ss) same a.1) b.1)
      | inr (inr more) ↦
          subst (AscendsFrom low) (sym (lay-more s t ss ts rest more))
          (b.0, lay_ascends s ss rest ih (t.0 + 1) ts (omega arith, a.1) b.1)
    ]

-- one ascending act after another ascends
pub then_ascends : (g : List (ℕ × ℕ)) (low : ℕ) (h : List (ℕ × ℕ)) → AscendsFrom low g → AscendsFrom low h →
    AscendsFrom low (act_then g h)
then_ascends [] low h a b = b
then_ascends (s ∷ ss) low h a b =
    lay_ascends s ss (act_then ss) (λ l k x y. then_ascends ss l k x y) low h a b

-- an earlier field's assignment may come last
applied-set : (ss : List (ℕ × ℕ)) (low f n : ℕ) (pk : List ℕ) → AscendsFrom low ss → f < low →
    applied ss (set pk f n) ≡ set (applied ss pk) f n
applied-set [] low f n pk a l = refl
applied-set (s ∷ ss) low f n pk a l =
    let ne : f ≢ s.0 = omega (arith, a.0) in
    ap (λ p. applied ss p) (set_comm pk f s.0 n s.1 ne)
    ∙ applied-set ss (s.0 + 1) f n (set pk s.0 s.1) a.1 (omega (arith, a.0))

-- the assignments laid under an act do what both do in turn, where those after the first one do
lay_applied : (s : ℕ × ℕ) (ss : List (ℕ × ℕ)) (rest : List (ℕ × ℕ) → List (ℕ × ℕ)) →
    ((low : ℕ) (h : List (ℕ × ℕ)) (pk : List ℕ) → AscendsFrom low ss → AscendsFrom low h →
    applied (rest h) pk ≡ applied h (applied ss pk)) →
    (low : ℕ) (h : List (ℕ × ℕ)) (pk : List ℕ) → AscendsFrom low (s ∷ ss) → AscendsFrom low h →
    applied (lay s ss rest h) pk ≡ applied h (applied (s ∷ ss) pk)
lay_applied s ss rest ih low [] pk a b = refl
lay_applied s ss rest ih low (t ∷ ts) pk a b =
    elim (order s.0 t.0) [
      | inl less ↦
          ap (λ x. applied x pk) (lay-less s t ss ts rest less)
          ∙ ih (s.0 + 1) (t ∷ ts) (set pk s.0 s.1) a.1 (omega arith, b.1)
      | inr (inl same) ↦
          let early : AscendsFrom (t.0 + 1) ss = subst (λ m. AscendsFrom (m + 1) ss) same a.1 in
          ap (λ x. applied x pk) (lay-same s t ss ts rest same) ∙ ih (t.0 + 1) ts (set pk t.0 t.1) early b.1
          ∙ ap (λ p. applied ts (applied ss p)) (sym (set-set pk t.0 s.1 t.1))
          ∙ ap (λ p. applied ts p) (applied-set ss (t.0 + 1) t.0 t.1 (set pk t.0 s.1) early (omega arith))
          ∙ ap (λ f. applied ts (set (applied ss (set pk f s.1)) t.0 t.1)) (sym same)
      | inr (inr more) ↦
          ap (λ x. applied x pk) (lay-more s t ss ts rest more)
          ∙ lay_applied s ss rest ih (t.0 + 1) ts (set pk t.0 t.1) (omega arith, a.1) b.1
          ∙ ap (λ p. applied ts p)
          (applied-set (s ∷ ss) (t.0 + 1) t.0 t.1 pk (omega arith, a.1) (omega arith))
    ]

-- one act after another is both in turn
pub then_applied : (g : List (ℕ × ℕ)) (low : ℕ) (h : List (ℕ × ℕ)) (pk : List ℕ) → AscendsFrom low g →
    AscendsFrom low h → applied (act_then g h) pk ≡ applied h (applied g pk)
then_applied [] low h pk a b = refl
then_applied (s ∷ ss) low h pk a b =
    lay_applied s ss (act_then ss) (λ l k p x y. then_applied ss l k p x y) low h pk a b

-- nothing after an act is that act
then-nil : (g : List (ℕ × ℕ)) → act_then g [] ≡ g
then-nil [] = refl
then-nil (s ∷ ss) = refl

-- where one of two acts is used up, what is left of both, joined, is one after the other
pub then_rests : (a b : List (ℕ × ℕ)) (i k : ℕ) → (length a ≤ i) ⊎ (length b ≤ k) →
    drop i a ++ drop k b ≡ act_then (drop i a) (drop k b)
then_rests a b i k (inl h) =
    let e = drop_all i a h in ap (λ xs. xs ++ drop k b) e ∙ ap (λ xs. act_then xs (drop k b)) (sym e)
then_rests a b i k (inr h) =
    let e = drop_all k b h in
    ap (λ ys. drop i a ++ ys) e ∙ append-nil (drop i a) ∙ sym (then-nil (drop i a))
    ∙ ap (λ ys. act_then (drop i a) ys) (sym e)
