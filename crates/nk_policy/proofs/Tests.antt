-- Tests: alternatives, conjunctions and equality of numbers.
use Rattle.std.proofs.Common.{◌≡◌, ℕ, ◌+◌, ◌≤◌, Bool, true, false, ◌⊎◌, inl, inr, ◌&&◌, refl, arith}
use Rattle.std.specs.Prelude.{◌==◌, ◌||◌, nat_le}
use Rattle.std.proofs.lemmas.Bool.Decides.{nat_tests}

-- a test that fails doesn't pass
pub false_true : false ≡ true → ⊥
false_true h = cc

-- a test that can't pass fails
pub false_where : (b : Bool) → (b ≡ true → ⊥) → b ≡ false
false_where true h = absurd (h refl)
false_where false h = refl

-- where the first of two tests passes, one of them does
pub or_left : (a b : Bool) → a ≡ true → a || b ≡ true
or_left true b h = refl
or_left false b h = cc

-- where the second passes, one of them does
pub or_right : (a b : Bool) → b ≡ true → a || b ≡ true
or_right true b h = refl
or_right false b h = h

-- a test that fails may be left out at the end
pub or_end : (a b : Bool) → a || (b || false) ≡ true → a || b ≡ true
or_end true b h = refl
or_end false true h = refl
or_end false false h = h

-- where one of two tests passes, the first or the second does
pub or_cases : (a b : Bool) → a || b ≡ true → (a ≡ true) ⊎ (b ≡ true)
or_cases true b h = inl refl
or_cases false b h = inr h

-- two tests of which none passes fail each
pub both_false : (a b : Bool) → a || b ≡ false → (a ≡ false) × (b ≡ false)
both_false true b h = cc
both_false false b h = (refl, h)

-- two tests that pass together pass each
pub both_true : (a b : Bool) → a && b ≡ true → (a ≡ true) × (b ≡ true)
both_true true b h = (refl, h)
both_true false b h = cc

-- two tests that each pass pass together
pub both_pass : (a b : Bool) → a ≡ true → b ≡ true → a && b ≡ true
both_pass true b h k = k
both_pass false b h k = cc

-- a number passes the test with itself
pub same_number : (l : ℕ) → l == l ≡ true
same_number l = grind arith

-- and the next one doesn't
pub next_number : (l : ℕ) → (l + 1) == l ≡ false
next_number l = grind arith

-- equal numbers pass the test
pub same_test : (l k : ℕ) → l ≡ k → l == k ≡ true
same_test l k e = grind (arith, e)

-- numbers that pass the test are equal
pub same_from : (l k : ℕ) → l == k ≡ true → l ≡ k
same_from l k h = grind (arith, h)

-- a number that is at most another passes the test for that
pub at_most_test : (m n : ℕ) → m ≤ n → nat_le m n ≡ true
at_most_test m n h = grind (arith, nat_tests)

-- and one that passes it is
pub at_most_from : (m n : ℕ) → nat_le m n ≡ true → m ≤ n
at_most_from m n h = grind (arith, nat_tests)

-- numbers that fail the test differ
pub other_from : (l k : ℕ) → l == k ≡ false → l ≡ k → ⊥
other_from l k h e = grind (arith, h, e)
