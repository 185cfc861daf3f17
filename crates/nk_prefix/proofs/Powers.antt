-- Powers of two, digits and aligned numbers.
use Rattle.std.proofs.Common.{◌≡◌, ℕ, zero, suc, ◌+◌, ◌*◌, ◌/◌, ◌%◌, ◌^◌, ◌<◌, ◌≤◌, ap, subst, arith, inl, inr}
use Rattle.std.proofs.lemmas.Nat.{pow_pos, div-add-mod', le-div, div_below}
use Rattle.std.proofs.lemmas.Grind.{pow_more}
use Rattle.std.proofs.Math.Pow.{pow_mono}
use Rattle.std.proofs.lemmas.Bool.Decides.{nat_tests, leb_tells}
use Rattle.nk_prefix.specs.Prefix.{digits_after, digits_of}

-- half a number that is not below two
pub digits_step : (k n : ℕ) → 2 ≤ n → digits_after (suc k) n ≡ digits_after k (n / 2) + 1
digits_step k n h = grind (arith, nat_tests, h)

pub digits_end : (k n : ℕ) → n < 2 → digits_after (suc k) n ≡ 0
digits_end k n h = grind (arith, nat_tests, h)

-- a number is below the power of two of its digits
pub below_digits : (k n : ℕ) → n ≤ k → n < 2 ^ (digits_after k n + 1)
below_digits zero n h = omega arith
below_digits (suc k) n h =
    elim (leb_tells 2 n) [
      | inl large ↦
          let half : n / 2 ≤ k = omega (arith, h, large.1) in
          let rest : n / 2 < 2 ^ (digits_after k (n / 2) + 1) = below_digits k (n / 2) half in
          rw (digits_step k n large.1) (omega (arith, rest, pow_more 2 (digits_after k (n / 2) + 1)))
      | inr little ↦ rw (digits_end k n little.1) (omega (arith, little.1))
    ]

-- and not below that of one less
pub digits_below : (k n : ℕ) → n ≤ k → 1 ≤ n → 2 ^ digits_after k n ≤ n
digits_below zero n h p = absurd (omega arith)
digits_below (suc k) n h p =
    elim (leb_tells 2 n) [
      | inl large ↦
          let half : n / 2 ≤ k = omega (arith, h, large.1) in
          let rest : 2 ^ digits_after k (n / 2) ≤ n / 2 = digits_below k (n / 2) half (omega (arith, large.1)) in
          rw (digits_step k n large.1) (omega (arith, rest, pow_more 2 (digits_after k (n / 2))))
      | inr little ↦ rw (digits_end k n little.1) (omega (arith, little.1, p))
    ]

-- one number of digits alone fits
pub same_power : (a b n : ℕ) → 2 ^ a ≤ n → n < 2 ^ (b + 1) → a ≤ b
same_power a b n low high =
    elim (leb_tells a b) [
      | inl le ↦ le.1
      | inr gt ↦ absurd (omega (arith, low, high, pow_mono {i = b + 1} {j = a} (omega (arith, gt.1))))
    ]

-- how many digits a number has, by the power of two that is at most it
pub digits_are : (j n : ℕ) → 2 ^ j ≤ n → n < 2 ^ (j + 1) → digits_of n ≡ j + 1
digits_are j n low high =
    let some : 1 ≤ n = omega (arith, low, pow_pos j) in
    omega (
      arith,
      same_power (digits_after n n) j n (digits_below n n (omega arith) some) high,
      same_power j (digits_after n n) n low (below_digits n n (omega arith)),
    )

-- a field's largest value is below the power of two of its digits
pub max_below : (n : ℕ) → n < 2 ^ digits_of n
max_below n = below_digits n n (omega arith)

-- numbers with one quotient by d as an aligned one are the d numbers from that one on
pub near : (d v x : ℕ) → 0 < d → v % d ≡ 0 → x / d ≡ v / d → (v ≤ x) × (x < v + d)
near d v x p a q =
    let xs : x / d * d + x % d ≡ x = div-add-mod' x d in
    let vs : v / d * d + v % d ≡ v = div-add-mod' v d in
    let same : x / d * d ≡ v / d * d = ap (λ y. y * d) q in
    (omega (arith, p, a, same, xs, vs), omega (arith, p, a, same, xs, vs))

-- and they alone
pub near_back : (d v x : ℕ) → 0 < d → v % d ≡ 0 → v ≤ x → x < v + d → x / d ≡ v / d
near_back d v x p a low high =
    let vs : v / d * d + v % d ≡ v = div-add-mod' v d in
    let up : v / d ≤ x / d = le-div (v / d) x d p (omega (arith, vs, low)) in
    let more : (v / d + 1) * d ≡ v / d * d + d = omega arith in
    let down : x / d < v / d + 1 = div_below x d (v / d + 1) p (omega (arith, more, vs, a, high)) in
    omega (arith, up, down)

-- no fewer digits will do
pub fewest : (n d : ℕ) → 1 ≤ d → n < 2 ^ d → digits_of n ≤ d
fewest n zero p h = absurd (omega arith)
fewest n (suc d) p h =
    elim (leb_tells 1 n) [
      | inl some ↦ omega (arith, same_power (digits_after n n) d n (digits_below n n (omega arith) some.1) (subst (λ k. n < 2 ^ k) (omega arith) h))
      | inr none ↦ let zero_is : n ≡ 0 = omega (arith, none.1) in let one : digits_of n ≡ 1 = ap digits_of zero_is in omega (arith, one)
    ]
