-- The largest block that begins at a value and fits.
use Rattle.std.proofs.Common.{◌≡◌, ℕ, zero, suc, ◌+◌, ◌-◌, ◌%◌, ◌^◌, ◌<◌, ◌≤◌, refl, ap, ◌∙◌, sym, subst, arith, inl, inr, ◌⊎◌}
use Rattle.std.specs.Prelude.{Bool, true, false, cond}
use Rattle.std.proofs.lemmas.Nat.{pow_pos, mod-pow-add}
use Rattle.std.proofs.Math.Pow.{pow_mono}
use Rattle.std.proofs.lemmas.Bool.Decides.{nat_tests, leb_tells, eqb_tells}
use Rattle.nk_prefix.specs.Blocks.{fits, largest_fit}

-- what fits is aligned, and ends by the end
pub fits_says : (v e k : ℕ) → fits v e k ≡ true → (v % 2 ^ k ≡ 0) × (v + 2 ^ k ≤ e + 1)
fits_says v e k h = (grind (arith, nat_tests, h), grind (arith, nat_tests, h))

-- and the other way round
pub fits_if : (v e k : ℕ) → v % 2 ^ k ≡ 0 → v + 2 ^ k ≤ e + 1 → fits v e k ≡ true
fits_if v e k a b = grind (arith, nat_tests, a, b)

-- a test is false where it isn't true
pub not_true : (b : Bool) → (b ≡ true → ⊥) → b ≡ false
not_true true h = absurd (h refl)
not_true false h = refl

-- what goes past the end doesn't fit
pub not_fits : (v e k : ℕ) → e + 1 < v + 2 ^ k → fits v e k ≡ false
not_fits v e k h = not_true (fits v e k) (λ f. let says = fits_says v e k f in absurd (omega (arith, says.1, h)))

-- where not all is aligned, nothing larger fits
pub not_aligned : (v e k : ℕ) → v % 2 ^ (k + 1) ≡ 2 ^ k → fits v e (k + 1) ≡ false
not_aligned v e k h = not_true (fits v e (k + 1)) (λ f. let says = fits_says v e (k + 1) f in absurd (omega (arith, says.0, h, pow_pos k)))

-- a multiple of a power of two is one of each lower power
pub aligned_lower : (v i d : ℕ) → v % 2 ^ (d + i) ≡ 0 → v % 2 ^ i ≡ 0
aligned_lower v i d h = omega (arith, h, mod-pow-add v d i)

-- where a block fits, so does a smaller one
pub fits_lower : (v e i j : ℕ) → i ≤ j → fits v e j ≡ true → fits v e i ≡ true
fits_lower v e i j le h =
    let says = fits_says v e j h in
    let parts : (j - i) + i ≡ j = omega (arith, le) in
    fits_if v e i
    (aligned_lower v i (j - i) (subst (λ k. v % 2 ^ k ≡ 0) (sym parts) says.0))
    (omega (arith, says.1, pow_mono {i = i} {j = j} le))

-- the block of one value fits
pub fits_one : (v e : ℕ) → v ≤ e → fits v e 0 ≡ true
fits_one v e h = fits_if v e 0 (omega arith) (omega (arith, h))

one_step : (b : Bool) (x y : ℕ) → ((b ≡ true) × (cond b x y ≡ x)) ⊎ ((b ≡ false) × (cond b x y ≡ y))
one_step true x y = inl (refl, refl)
one_step false x y = inr (refl, refl)

pub largest_step :
    (v e k : ℕ) → ((fits v e (suc k) ≡ true) × (largest_fit v e (suc k) ≡ suc k))
    ⊎ ((fits v e (suc k) ≡ false) × (largest_fit v e (suc k) ≡ largest_fit v e k))
largest_step v e k = one_step (fits v e (suc k)) (suc k) (largest_fit v e k)

-- it is at most as large as may be
pub largest_most : (v e k : ℕ) → largest_fit v e k ≤ k
largest_most v e zero = omega arith
largest_most v e (suc k) =
    elim (largest_step v e k) [
      | inl fit ↦ omega (arith, fit.1)
      | inr gap ↦ omega (arith, gap.1, largest_most v e k)
    ]

-- it fits
pub largest_fits : (v e k : ℕ) → v ≤ e → fits v e (largest_fit v e k) ≡ true
largest_fits v e zero h = fits_one v e h
largest_fits v e (suc k) h =
    elim (largest_step v e k) [
      | inl fit ↦ ap (fits v e) fit.1 ∙ fit.0
      | inr gap ↦ ap (fits v e) gap.1 ∙ largest_fits v e k h
    ]

-- none of these fits that is larger than it
pub largest_above : (v e k j : ℕ) → j ≤ k → fits v e j ≡ true → j ≤ largest_fit v e k
largest_above v e zero j le h = omega (arith, le)
largest_above v e (suc k) j le h =
    elim (largest_step v e k) [
      | inl fit ↦ omega (arith, le, fit.1)
      | inr gap ↦
          elim (eqb_tells j (suc k)) [
            | inl same ↦ absurd (let up : fits v e (suc k) ≡ true = subst (λ i. fits v e i ≡ true) same.1 h in cc (up, gap.0))
            | inr other ↦ omega (arith, gap.1, largest_above v e k j (omega (arith, le, other.1)) h)
          ]
    ]

-- one that fits where the next doesn't is the largest
pub largest_is :
    (v e k j : ℕ) → v ≤ e → j ≤ k → fits v e j ≡ true → (j < k → fits v e (j + 1) ≡ false) → largest_fit v e k ≡ j
largest_is v e k j within le h stop =
    elim (leb_tells (largest_fit v e k) j) [
      | inl at ↦ omega (arith, at.1, largest_above v e k j le h)
      | inr past ↦
          let next : fits v e (j + 1) ≡ true = fits_lower v e (j + 1) (largest_fit v e k) (omega (arith, past.1)) (largest_fits v e k within) in
          let not_next : fits v e (j + 1) ≡ false = stop (omega (arith, past.1, largest_most v e k)) in
          absurd (cc (next, not_next))
    ]
