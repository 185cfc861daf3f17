-- Dups numbered in text order have different numbers, from the first one on.
use Rattle.std.proofs.Common.{◌≡◌, ℕ, ◌+◌, ◌<◌, ◌≤◌, true, ⊎_elim, ap, subst, ◌∙◌, arith}
use Rattle.std.specs.Prelude.{◌==◌}
use Rattle.nk_policy.specs.Policy.{Policy, Policies, sum_of, seq_of, not_of, star_of, dup, link, no_part, part, dups_of, dups_of_all, marked_from, all_marked_from}
use Rattle.nk_policy.specs.After.{has_dup, some_has_dup}
use Rattle.nk_policy.specs.Distinct.{HasDistinct, AllDistinct}
use Rattle.nk_policy.specs.PositionSets.{IsNumbered, AreSides}
use Rattle.nk_policy.proofs.Tests.{false_true, false_where, or_cases, same_from}

mutual
  -- the numbers of a policy that is numbered from n on lie from n on, and there are as many as dups
  pub number_within : (p : Policy) (n l : ℕ) → has_dup (marked_from p n) l ≡ true
      → (n ≤ l) × (l < n + dups_of p)
  number_within (sum_of ps) n l h = numbers_within ps n l h
  number_within (seq_of ps) n l h = numbers_within ps n l h
  number_within (not_of p) n l h = number_within p n l h
  number_within (star_of p) n l h = number_within p n l h
  number_within (dup k) n l h = let e = same_from l n h in (omega (arith, e), omega (arith, e))
  number_within (link a m b j k) n l h =
      ⊎_elim
      (λ s. let e = same_from l n s in (omega (arith, e), omega (arith, e)))
      (λ s. let e = same_from l (n + 1) s in (omega (arith, e), omega (arith, e)))
      (or_cases (l == n) (l == (n + 1)) h)
  number_within p n l h = absurd (false_true h)

  -- those of its parts do
  pub numbers_within : (ps : Policies) (n l : ℕ) → some_has_dup (all_marked_from ps n) l ≡ true
      → (n ≤ l) × (l < n + dups_of_all ps)
  numbers_within no_part n l h = absurd (false_true h)
  numbers_within (part p ps) n l h =
      ⊎_elim
      (λ s. let b = number_within p n l s in (b.0, omega (arith, b.1)))
      (λ s. let b = numbers_within ps (n + dups_of p) l s in (omega (arith, b.0), omega (arith, b.1)))
      (or_cases (has_dup (marked_from p n) l) (some_has_dup (all_marked_from ps (n + dups_of p)) l) h)

mutual
  -- they differ
  pub marked_distinct : (p : Policy) (n : ℕ) → HasDistinct (marked_from p n)
  marked_distinct (sum_of ps) n = all_marked_distinct ps n
  marked_distinct (seq_of ps) n = all_marked_distinct ps n
  marked_distinct (star_of p) n = marked_distinct p n
  marked_distinct p n = tt

  -- those of its parts do
  pub all_marked_distinct : (ps : Policies) (n : ℕ) → AllDistinct (all_marked_from ps n)
  all_marked_distinct no_part n = tt
  all_marked_distinct (part p ps) n = (
    marked_distinct p n,
    all_marked_distinct ps (n + dups_of p),
    λ l h.
        let later = numbers_within ps (n + dups_of p) l h in
        false_where (has_dup (marked_from p n) l) (λ g.
        let earlier = number_within p n l g in
        omega (arith, earlier.1, later.0)),
  )

-- so a policy that is its own numbering has different numbers
pub numbered_distinct : (p : Policy) (n : ℕ) → marked_from p n ≡ p → HasDistinct p
numbered_distinct p n e = subst HasDistinct e (marked_distinct p n)

-- and two policies numbered one after the other have no number in common
pub numbered_apart : (p q : Policy) (n m : ℕ) → marked_from p n ≡ p → marked_from q m ≡ q
    → n + dups_of p ≤ m → (l : ℕ) → has_dup p l ≡ true → has_dup q l ≡ true → ⊥
numbered_apart p q n m e f le l h g =
    let a = number_within p n l (ap (λ r. has_dup r l) e ∙ h) in
    let b = number_within q m l (ap (λ r. has_dup r l) f ∙ g) in
    omega (arith, a.1, b.0, le)

-- a policy that is numbered from 1 on or later has no dup with number 0
pub numbered_from : (p : Policy) (n : ℕ) → 1 ≤ n → marked_from p n ≡ p → IsNumbered p
numbered_from p n le e = record {
  distinct = numbered_distinct p n e;
  from_one = false_where (has_dup p 0) (λ h.
      let a = number_within p n 0 (ap (λ r. has_dup r 0) e ∙ h) in
      omega (arith, a.0, le));
}

-- two policies of which the second is numbered after the first are two sides
pub numbered_sides : (p q : Policy) (n : ℕ) → 1 ≤ n → marked_from p n ≡ p
    → marked_from q (n + dups_of p) ≡ q → AreSides p q
numbered_sides p q n le e f =
    let later : 1 ≤ n + dups_of p = omega (arith, le) in
    record {
      left = numbered_from p n le e;
      right = numbered_from q (n + dups_of p) later f;
      apart = λ l h g. numbered_apart p q n (n + dups_of p) e f (omega arith) l h g;
    }
