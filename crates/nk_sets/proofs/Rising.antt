-- Lists of numbers that rise strictly.
use Rattle.std.proofs.Common.{◌≡◌, ℕ, suc, ◌<◌, ◌≤◌, ◌+◌, inl, inr, refl, sym, subst, arith, List, [], ◌∷◌, length, get_or, Contains}
use Rattle.std.specs.List.Sorted.{IsStrictlyIncreasing}
use Rattle.nk_apply.proofs.Members.{Has as Among, has_contains, contains_has}

-- the numbers rise strictly, from low on
abbrev pub RisesFrom : ℕ → List ℕ → Type 0
RisesFrom low [] = Unit {0}
RisesFrom low (x ∷ xs) = (low ≤ x) × RisesFrom (x + 1) xs

-- a strictly rising list rises from any number up to its first
pub rises_at : (low : ℕ) (xs : List ℕ) → IsStrictlyIncreasing xs → (0 < length xs → low ≤ get_or xs 0 0) → RisesFrom low xs
rises_at low [] h l = tt
rises_at low (x ∷ xs) h l = (l (omega arith), rises_at (x + 1) xs (next x xs h) (λ m. let n : x < get_or xs 0 0 = h 0 (omega (arith, m)) in omega (arith, n)))
  where
    next : (x : ℕ) (xs : List ℕ) → IsStrictlyIncreasing (x ∷ xs) → IsStrictlyIncreasing xs
    next x xs h k m =
        let e : suc k + 1 ≡ suc (k + 1) = omega arith in
        subst (λ j. get_or (x ∷ xs) (suc k) 0 < get_or (x ∷ xs) j 0) e (h (suc k) (omega (arith, m)))

-- a strictly rising list rises from 0
pub rises_from : (xs : List ℕ) → IsStrictlyIncreasing xs → RisesFrom 0 xs
rises_from xs h = rises_at 0 xs h (λ m. omega arith)

-- members of a rising list are not below its beginning
pub rises_above : (low k : ℕ) (xs : List ℕ) → RisesFrom low xs → Among xs k → low ≤ k
rises_above low k [] r m = absurd m
rises_above low k (x ∷ xs) r m = elim m [
  | inl here ↦ omega (arith, r.0, here)
  | inr later ↦ let b : x + 1 ≤ k = rises_above (x + 1) k xs r.1 later in omega (arith, r.0, b)
]

-- rising lists with the same members are one
pub rising_same : (a b : ℕ) (xs ys : List ℕ) → RisesFrom a xs → RisesFrom b ys → ((k : ℕ) → Among xs k → Among ys k) → ((k : ℕ) → Among ys k → Among xs k) → xs ≡ ys
rising_same a b [] [] r s f g = refl
rising_same a b [] (y ∷ ys) r s f g = absurd (g y (inl refl))
rising_same a b (x ∷ xs) [] r s f g = absurd (f x (inl refl))
rising_same a b (x ∷ xs) (y ∷ ys) r s f g =
    let e : x ≡ y = elim (f x (inl refl)) [
      | inl here ↦ sym here
      | inr later ↦ elim (g y (inl refl)) [
        | inl here ↦ here
        | inr other ↦
            let p : y + 1 ≤ x = rises_above (y + 1) x ys s.1 later in
            let q : x + 1 ≤ y = rises_above (x + 1) y xs r.1 other in
            absurd (omega (arith, p, q))
      ]
    ] in
    let rest : xs ≡ ys = rising_same (x + 1) (y + 1) xs ys r.1 s.1
    (λ k m. elim (f k (inr m)) [
      | inl here ↦ let p : x + 1 ≤ k = rises_above (x + 1) k xs r.1 m in absurd (omega (arith, p, here, e))
      | inr later ↦ later
    ])
    (λ k m. elim (g k (inr m)) [
      | inl here ↦ let p : y + 1 ≤ k = rises_above (y + 1) k ys s.1 m in absurd (omega (arith, p, here, e))
      | inr later ↦ later
    ]) in
    cc

-- two strictly rising lists with the same members are one
pub rising_one : (xs ys : List ℕ) → IsStrictlyIncreasing xs → IsStrictlyIncreasing ys → ((k : ℕ) → Contains xs k → Contains ys k) → ((k : ℕ) → Contains ys k → Contains xs k) → xs ≡ ys
rising_one xs ys a b f g =
    rising_same 0 0 xs ys (rises_from xs a) (rises_from ys b)
    (λ k m. contains_has ys k (f k (has_contains xs k m))) (λ k m. contains_has xs k (g k (has_contains ys k m)))
