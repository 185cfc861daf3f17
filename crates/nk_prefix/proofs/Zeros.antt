-- The largest block that fits, by the zeros at the end of its first value and the size of what is left.
use Rattle.std.proofs.Common.{◌≡◌, ℕ, zero, suc, ◌+◌, ◌-◌, ◌*◌, ◌/◌, ◌%◌, ◌^◌, ◌<◌, ◌≤◌, min, ap, ◌∙◌, sym, subst, arith, inl, inr}
use Rattle.std.specs.Prelude.{false}
use Rattle.std.specs.Int.{w64, trailing_zeros}
use Rattle.std.specs.Int.Count.{trailing_of_zero}
use Rattle.std.proofs.lemmas.Nat.{pow_pos, mod-pow-add}
use Rattle.std.proofs.lemmas.Nat.Bits.{bit_at-trailing_zeros}
use Rattle.std.proofs.Math.Pow.{pow_mono}
use Rattle.std.proofs.lemmas.Bool.Decides.{leb_tells, eqb_tells}
use Rattle.nk_prefix.specs.Blocks.{fits, largest_fit}
use Rattle.nk_prefix.proofs.Fitting.{fits_if, not_fits, not_aligned, aligned_lower, largest_is}

-- one digit more of a remainder
next_digit : (n k : ℕ) → n % 2 ^ (k + 1) ≡ (n / 2 ^ k % 2) * 2 ^ k + n % 2 ^ k
next_digit n k = ap (λ j. n % 2 ^ j) (omega arith) ∙ mod-pow-add n 1 k

-- a number whose lowest digits are zeros
low_zeros_aligned : (n k : ℕ) → ((i : ℕ) → i < k → n / 2 ^ i % 2 ≡ 0) → n % 2 ^ k ≡ 0
low_zeros_aligned n zero h = omega arith
low_zeros_aligned n (suc k) h =
    let rest = low_zeros_aligned n k (λ i l. h i (omega (arith, l))) in
    let same : n % 2 ^ suc k ≡ n % 2 ^ (k + 1) = ap (λ j. n % 2 ^ j) (omega arith) in
    same ∙ next_digit n k ∙ ap (λ b. b * 2 ^ k + n % 2 ^ k) (h k (omega arith)) ∙ omega (arith, rest)

-- a number is aligned to the zeros at its end
pub zeros_aligned : (n : ℕ) → n < 2 ^ 64 → n % 2 ^ trailing_zeros w64 n ≡ 0
zeros_aligned n h =
    elim (leb_tells 1 n) [
      | inl some ↦ let at = bit_at-trailing_zeros w64 n (omega (arith, some.1)) h in low_zeros_aligned n (trailing_zeros w64 n) at.2
      | inr none ↦ let is : n ≡ 0 = omega (arith, none.1) in omega (arith, is, pow_pos (trailing_zeros w64 n))
    ]

-- and to no more
pub zeros_stop : (n d : ℕ) → n < 2 ^ 64 → d ≤ 64 → trailing_zeros w64 n < d → n % 2 ^ (trailing_zeros w64 n + 1) ≡ 2 ^ trailing_zeros w64 n
zeros_stop n d h small less =
    elim (leb_tells 1 n) [
      | inl some ↦
          let at = bit_at-trailing_zeros w64 n (omega (arith, some.1)) h in
          next_digit n (trailing_zeros w64 n)
          ∙ ap (λ b. b * 2 ^ trailing_zeros w64 n + n % 2 ^ trailing_zeros w64 n) at.1
          ∙ omega (arith, zeros_aligned n h)
      | inr none ↦
          let is : n ≡ 0 = omega (arith, none.1) in
          let all : trailing_zeros w64 n ≡ 64 = ap (trailing_zeros w64) is ∙ trailing_of_zero 64 in
          absurd (omega (arith, all, small, less))
    ]

-- the largest block that fits has as many free digits as the least of three numbers
pub least_of_three :
    (v e d t f j : ℕ) → v ≤ e → v % 2 ^ t ≡ 0 → (t < d → v % 2 ^ (t + 1) ≡ 2 ^ t)
    → 2 ^ f ≤ e - v + 1 → e - v + 1 < 2 ^ (f + 1) → j ≡ min (min t f) d → largest_fit v e d ≡ j
least_of_three v e d t f j within aligned stop most next is =
    let below_t : j ≤ t = omega (arith, is) in
    let below_f : j ≤ f = omega (arith, is) in
    let parts : (t - j) + j ≡ t = omega (arith, below_t) in
    let low : v % 2 ^ j ≡ 0 = aligned_lower v j (t - j) (subst (λ k. v % 2 ^ k ≡ 0) (sym parts) aligned) in
    let small : 2 ^ j ≤ 2 ^ f = pow_mono {i = j} {j = f} below_f in
    largest_is v e d j within (omega (arith, is)) (fits_if v e j low (omega (arith, small, most, within)))
    (λ l.
    elim (eqb_tells j t) [
      | inl same ↦
          let stops = stop (omega (arith, l, same.1)) in
          subst (λ k. fits v e (k + 1) ≡ false) (sym same.1) (not_aligned v e t stops)
      | inr other ↦
          let at : j ≡ f = omega (arith, is, l, other.1) in
          subst (λ k. fits v e (k + 1) ≡ false) (sym at) (not_fits v e (f + 1) (omega (arith, next, within)))
    ])
