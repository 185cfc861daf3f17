-- How many blocks an interval has: at most two for each digit.
use Rattle.std.proofs.Common.{◌≡◌, ℕ, zero, suc, ◌+◌, ◌*◌, ◌/◌, ◌%◌, ◌^◌, ◌<◌, ◌≤◌, ap, ◌∙◌, subst, arith, inl, inr, ◌⊎◌, length}
use Rattle.std.specs.Prelude.{true, false}
use Rattle.std.proofs.lemmas.Nat.{pow_pos, mod-pow-add, mod-mul-add, div-add-mod'}
use Rattle.std.proofs.lemmas.Grind.{pow_more}
use Rattle.std.proofs.Math.Pow.{pow_mono}
use Rattle.std.proofs.lemmas.Bool.Decides.{leb_tells, eqb_tells}
use Rattle.nk_prefix.specs.Prefix.{digits_of}
use Rattle.nk_prefix.specs.Blocks.{fits, largest_fit, end_of, blocks_from, blocks_of}
use Rattle.nk_prefix.proofs.Powers.{max_below}
use Rattle.nk_prefix.proofs.Fitting.{not_fits, not_aligned, fits_if, largest_is, largest_above}
use Rattle.nk_prefix.proofs.Cuts.{step, cut_on, cut_stop, cut_past, goes_on, ends}

-- a multiple of a power of two is one of the next power, or half of that lies between
halves : (v k : ℕ) → v % 2 ^ k ≡ 0 → (v % 2 ^ (k + 1) ≡ 0) ⊎ (v % 2 ^ (k + 1) ≡ 2 ^ k)
halves v k h =
    let parts : v % 2 ^ (k + 1) ≡ (v / 2 ^ k % 2) * 2 ^ k + v % 2 ^ k = ap (λ j. v % 2 ^ j) (omega arith) ∙ mod-pow-add v 1 k in
    elim (eqb_tells (v / 2 ^ k % 2) 0) [
      | inl even ↦ inl (parts ∙ ap (λ q. q * 2 ^ k + v % 2 ^ k) even.1 ∙ omega (arith, h))
      | inr odd ↦
          let one : v / 2 ^ k % 2 ≡ 1 = omega (arith, odd.1) in
          inr (parts ∙ ap (λ q. q * 2 ^ k + v % 2 ^ k) one ∙ omega (arith, h))
    ]

-- what is aligned stays aligned after a block of that size
aligned_on : (v k : ℕ) → v % 2 ^ k ≡ 0 → (v + 2 ^ k) % 2 ^ k ≡ 0
aligned_on v k h =
    let split : v / 2 ^ k * 2 ^ k + v % 2 ^ k ≡ v = div-add-mod' v (2 ^ k) in
    let whole : v + 2 ^ k ≡ (v / 2 ^ k + 1) * 2 ^ k + 0 = omega (arith, split, h) in
    ap (λ w. w % 2 ^ k) whole ∙ mod-mul-add (v / 2 ^ k + 1) (2 ^ k) 0 (pow_pos k)

-- an aligned number is aligned to the half
aligned_half : (v k : ℕ) → v % 2 ^ (k + 1) ≡ 0 → v % 2 ^ k ≡ 0
aligned_half v k h =
    let parts : v % 2 ^ (k + 1) ≡ (v / 2 ^ k % 2) * 2 ^ k + v % 2 ^ k = ap (λ j. v % 2 ^ j) (omega arith) ∙ mod-pow-add v 1 k in
    omega (arith, h, parts)

-- a remainder that is half of the divisor
up_by : (s t v : ℕ) → 0 < s → t ≡ s * 2 → v % t ≡ s → (v + s) % t ≡ 0
up_by s t v p twice h =
    let split : v / t * t + v % t ≡ v = div-add-mod' v t in
    let whole : v + s ≡ (v / t + 1) * t + 0 = omega (arith, split, h, twice) in
    ap (λ w. w % t) whole ∙ mod-mul-add (v / t + 1) t 0 (omega (arith, p, twice))

-- half a size after the middle is the next multiple
aligned_up : (v k : ℕ) → v % 2 ^ (k + 1) ≡ 2 ^ k → (v + 2 ^ k) % 2 ^ (k + 1) ≡ 0
aligned_up v k h =
    let twice : 2 ^ (k + 1) ≡ 2 ^ k * 2 = pow_more 2 k in
    up_by (2 ^ k) (2 ^ (k + 1)) v (pow_pos k) twice h

-- at most k blocks are left where fewer than 2 ^ k values are, from a multiple of 2 ^ k on
pub few_left :
    (d e m n k v : ℕ) → k ≤ d → v % 2 ^ k ≡ 0 → e + 1 < v + 2 ^ k → length (blocks_from d e m n v) ≤ k
few_left d e m n zero v le a room = let none = ap length (cut_past d e m n v (omega (arith, room))) in omega (arith, none)
few_left d e m zero (suc k) v le a room = omega arith
few_left d e m (suc n) (suc k) v le a room =
    let aligned : v % 2 ^ k ≡ 0 = aligned_half v k (subst (λ j. v % 2 ^ j ≡ 0) (omega arith) a) in
    let room' : e + 1 < v + 2 ^ (k + 1) = subst (λ j. e + 1 < v + 2 ^ j) (omega arith) room in
    elim (leb_tells (v + 2 ^ k) (e + 1)) [
      | inr small ↦ omega (arith, few_left d e m (suc n) k v (omega (arith, le)) aligned small.1)
      | inl fit ↦
          let within : v ≤ e = omega (arith, fit.1, pow_pos k) in
          let is : largest_fit v e d ≡ k = largest_is v e d k within (omega (arith, le)) (fits_if v e k aligned fit.1) (λ l. not_fits v e (k + 1) room') in
          elim (goes_on e m v) [
            | inr stop ↦ let none = ap length (cut_stop d e m (suc n) v stop) in omega (arith, none)
            | inl on ↦
                let on_is = ap length (cut_on d e m n v on.0 on.1) in
                let there : v + step d e v ≡ v + 2 ^ k = ap (λ j. v + 2 ^ j) is in
                let same : length (blocks_from d e m n (v + step d e v)) ≡ length (blocks_from d e m n (v + 2 ^ k)) = ap (λ w. length (blocks_from d e m n w)) there in
                let rest = few_left d e m n k (v + 2 ^ k) (omega (arith, le)) (aligned_on v k aligned) (omega (arith, room', pow_more 2 k)) in
                omega (arith, on_is, same, rest)
          ]
    ]

-- one block of all values leaves none
one_left :
    (d e m n v : ℕ) → v % 2 ^ d ≡ 0 → e + 1 ≤ 2 ^ d → v + 2 ^ d ≤ e + 1 → length (blocks_from d e m n v) ≤ 1
one_left d e m zero v a end fit = omega arith
one_left d e m (suc n) v a end fit =
    elim (goes_on e m v) [
      | inr stop ↦ let none = ap length (cut_stop d e m (suc n) v stop) in omega (arith, none)
      | inl on ↦
          let is : d ≤ largest_fit v e d = largest_above v e d d (omega arith) (fits_if v e d a fit) in
          let size : 2 ^ d ≤ step d e v = pow_mono {i = d} {j = largest_fit v e d} is in
          let on_is = ap length (cut_on d e m n v on.0 on.1) in
          let none = ap length (cut_past d e m n (v + step d e v) (omega (arith, end, fit, size))) in
          omega (arith, on_is, none)
    ]

-- a block, and at most so many after it
few_step :
    (d e m n i k v : ℕ) → suc i + k ≡ d → v ≤ e → fits v e k ≡ true → fits v e (k + 1) ≡ false
    → ((l : ℕ) → length (blocks_from d e m l (v + 2 ^ k)) ≤ i + d) → length (blocks_from d e m n v) ≤ suc i + d
few_step d e m zero i k v at within fit stop rest = omega arith
few_step d e m (suc n) i k v at within fit stop rest =
    elim (goes_on e m v) [
      | inr past ↦ let none = ap length (cut_stop d e m (suc n) v past) in omega (arith, none)
      | inl on ↦
          let is : largest_fit v e d ≡ k = largest_is v e d k within (omega (arith, at)) fit (λ l. stop) in
          let on_is = ap length (cut_on d e m n v on.0 on.1) in
          let there : v + step d e v ≡ v + 2 ^ k = ap (λ j. v + 2 ^ j) is in
          let same : length (blocks_from d e m n (v + step d e v)) ≡ length (blocks_from d e m n (v + 2 ^ k)) = ap (λ w. length (blocks_from d e m n w)) there in
          omega (arith, on_is, same, rest n)
    ]

-- from a multiple of 2 ^ k on, so many blocks at most
pub few_from :
    (d e m n j k v : ℕ) → j + k ≡ d → 1 ≤ d → e + 1 ≤ 2 ^ d → v % 2 ^ k ≡ 0 → length (blocks_from d e m n v) ≤ j + d
few_from d e m n zero k v at p end a =
    let same : k ≡ d = omega (arith, at) in
    let aligned : v % 2 ^ d ≡ 0 = subst (λ i. v % 2 ^ i ≡ 0) same a in
    elim (leb_tells (v + 2 ^ d) (e + 1)) [
      | inr small ↦ omega (arith, few_left d e m n d v (omega arith) aligned small.1)
      | inl fit ↦ omega (arith, p, one_left d e m n v aligned end fit.1)
    ]
few_from d e m n (suc i) k v at p end a =
    elim (halves v k a) [
      | inl more ↦ omega (arith, few_from d e m n i (k + 1) v (omega (arith, at)) p end more)
      | inr half ↦
          elim (leb_tells (v + 2 ^ k) (e + 1)) [
            | inr small ↦ omega (arith, at, few_left d e m n k v (omega (arith, at)) a small.1)
            | inl fit ↦ few_step d e m n i k v at (omega (arith, fit.1, pow_pos k)) (fits_if v e k a fit.1) (not_aligned v e k half) (λ l. few_from d e m l i (k + 1) (v + 2 ^ k) (omega (arith, at)) p end (aligned_up v k half))
          ]
    ]

-- the blocks of an interval are at most two for each digit
pub few : (lo hi max : ℕ) → hi ≤ max → length (blocks_of lo hi max) ≤ 2 * digits_of max
few lo hi max h =
    let d = digits_of max in
    let end : end_of lo hi max + 1 ≤ 2 ^ digits_of max =
    elim (ends lo hi max h) [ inl is ↦ omega (arith, is, h, max_below max) | inr past ↦ omega (arith, past.2) ] in
    let all = few_from (digits_of max) (end_of lo hi max) max (end_of lo hi max + 1) (digits_of max) 0 lo (omega arith) (omega arith) end (omega arith) in
    omega (arith, all)
