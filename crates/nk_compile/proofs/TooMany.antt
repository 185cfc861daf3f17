-- At least so many against at most so many, and against at most fewer.
use Rattle.std.proofs.Common.{◌≡◌, ℕ, ◌+◌, ◌≤◌, List, [], ◌∷◌, arith}
use Rattle.nk_field.proofs.Lists.{NoDup, contains_from_in, in_from_contains}
use Rattle.nk_field.proofs.Ascending.{members_from_all}
use Rattle.nk_policy.specs.Labels.{AtMost, AtLeast, IsWithoutDoubles}
use Rattle.nk_runs.proofs.Numbers.{no_dup_fit}

-- a list without doubles has none by members
no_dup_from : {X : Type 0} (xs : List X) → IsWithoutDoubles xs → NoDup xs
no_dup_from [] h = tt
no_dup_from (x ∷ xs) h = (λ i. h.0 (contains_from_in xs x i), no_dup_from xs h.1)

-- at least so many are no more than at most so many
pub least_fits_most : {X : Type 0} (P : X → Type 0) (most least : ℕ) → AtMost most P → AtLeast least P → least ≤ most
least_fits_most P most least few many =
    let le =
    no_dup_fit many.0 few.0 (no_dup_from many.0 many.2) (λ x i. in_from_contains few.0 x (few.2 x (members_from_all P many.0 many.3 x i))) in
    let a = few.1 in
    let b = many.1 in
    omega (arith, le, a, b)

-- at most so many are not one more
pub never_more : {X : Type 0} (P : X → Type 0) (most least : ℕ) → AtMost most P → least ≡ most + 1 → AtLeast least P → ⊥
never_more P most least few e many = let le = least_fits_most P most least few many in omega (arith, le, e)
