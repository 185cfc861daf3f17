-- The test of two bucket lists decides whether they are equal.
use Rattle.std.proofs.Common.{◌≡◌, ℕ, Bool, true, false, List, [], ◌∷◌, refl, ap, ◌∙◌, arith}
use Rattle.std.specs.Prelude.{◌==◌, ◌&&◌}
use Rattle.std.proofs.lemmas.Bool.Decides.{nat_tests}
use Rattle.nk_table.specs.declared.Bucket.{Bucket}
use Rattle.nk_table.specs.declared.Exit.{Exit}
use Rattle.nk_table.specs.declared.Exit.TheVariants.{Back, Port}
use Rattle.nk_table.specs.Buckets.{same_exit, same_pairs, same_buckets}

-- both tests pass where both together do
pub and_left : (a b : Bool) → a && b ≡ true → a ≡ true
and_left true b e = refl
and_left false b e = e

-- the second of them too
pub and_right : (a b : Bool) → a && b ≡ true → b ≡ true
and_right true b e = e
and_right false b e = absurd cc

-- and both together pass where each does
pub and_both : (a b : Bool) → a ≡ true → b ≡ true → a && b ≡ true
and_both a b e f = ap (λ x. x && b) e ∙ f

-- numbers that the test finds equal are
pub eq_of : (m n : ℕ) → (m == n) ≡ true → m ≡ n
eq_of m n e = grind (arith, nat_tests, e)

-- a number is found equal to itself
pub eq_self : (n : ℕ) → (n == n) ≡ true
eq_self n = grind (arith, nat_tests)

-- exits that the test finds equal are
same_exit_tells : (a b : Exit) → same_exit a b ≡ true → a ≡ b
same_exit_tells Back Back e = refl
same_exit_tells Back (Port n) e = absurd cc
same_exit_tells (Port m) Back e = absurd cc
same_exit_tells (Port m) (Port n) e = ap Port (eq_of m n e)

-- an exit is the same as itself
same_exit_self : (a : Exit) → same_exit a a ≡ true
same_exit_self Back = refl
same_exit_self (Port n) = eq_self n

-- a pair is given by its parts
pair_is : (a b : ℕ × ℕ) → a.0 ≡ b.0 → a.1 ≡ b.1 → a ≡ b
pair_is a b e f = ap (λ x. (x, a.1)) e ∙ ap (λ y. (b.0, y)) f

-- lists of pairs that the test finds equal are
same_pairs_tells : (xs ys : List (ℕ × ℕ)) → same_pairs xs ys ≡ true → xs ≡ ys
same_pairs_tells [] [] e = refl
same_pairs_tells [] (y ∷ ys) e = absurd cc
same_pairs_tells (x ∷ xs) [] e = absurd cc
same_pairs_tells (x ∷ xs) (y ∷ ys) e =
    let first = and_left _ (same_pairs xs ys) e in
    ap (λ z. z ∷ xs) (pair_is x y (eq_of x.0 y.0 (and_left (x.0 == y.0) (x.1 == y.1) first)) (eq_of x.1 y.1 (and_right (x.0 == y.0) (x.1 == y.1) first)))
    ∙ ap (λ zs. y ∷ zs) (same_pairs_tells xs ys (and_right ((x.0 == y.0) && (x.1 == y.1)) (same_pairs xs ys) e))

-- a list of pairs is found equal to itself
same_pairs_self : (xs : List (ℕ × ℕ)) → same_pairs xs xs ≡ true
same_pairs_self [] = refl
same_pairs_self (x ∷ xs) = and_both _ _ (and_both _ _ (eq_self x.0) (eq_self x.1)) (same_pairs_self xs)

-- a bucket of these parts
abbrev bucket_with : List (ℕ × ℕ) → Exit → Bucket
bucket_with s x = record { sets = s; exit = x }

-- a bucket is given by its parts
bucket_is : (a b : Bucket) → a.sets ≡ b.sets → a.exit ≡ b.exit → a ≡ b
bucket_is a b e f = ap (λ s. bucket_with s a.exit) e ∙ ap (λ x. bucket_with b.sets x) f

-- bucket lists that the test finds equal are
pub same_buckets_tells : (xs ys : List Bucket) → same_buckets xs ys ≡ true → xs ≡ ys
same_buckets_tells [] [] e = refl
same_buckets_tells [] (y ∷ ys) e = absurd cc
same_buckets_tells (x ∷ xs) [] e = absurd cc
same_buckets_tells (x ∷ xs) (y ∷ ys) e =
    let first = and_left (same_pairs x.sets y.sets && same_exit x.exit y.exit) (same_buckets xs ys) e in
    ap (λ z. z ∷ xs) (bucket_is x y (same_pairs_tells x.sets y.sets (and_left (same_pairs x.sets y.sets) (same_exit x.exit y.exit) first)) (same_exit_tells x.exit y.exit (and_right (same_pairs x.sets y.sets) (same_exit x.exit y.exit) first)))
    ∙ ap (λ zs. y ∷ zs) (same_buckets_tells xs ys (and_right (same_pairs x.sets y.sets && same_exit x.exit y.exit) (same_buckets xs ys) e))

-- a bucket list is found equal to itself
pub same_buckets_self : (xs : List Bucket) → same_buckets xs xs ≡ true
same_buckets_self [] = refl
same_buckets_self (x ∷ xs) = and_both _ _ (and_both _ _ (same_pairs_self x.sets) (same_exit_self x.exit)) (same_buckets_self xs)
