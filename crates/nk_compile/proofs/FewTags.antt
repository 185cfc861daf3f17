-- A policy has at most as many tags as it has tag sets at most.
use Rattle.std.proofs.Common.{ℕ, ◌≤◌, List, [], ◌∷◌, length, arith}
use Rattle.std.specs.Prelude.{AllPairs}
use Rattle.nk_field.proofs.Lists.{in_from_contains, contains_from_in, NoDup}
use Rattle.nk_field.proofs.Ascending.{first_before, rest_in_order}
use Rattle.nk_policy.specs.Policy.{Policy}
use Rattle.nk_policy.specs.Labels.{IsTagSet, AtMost}
use Rattle.nk_policy.specs.Tags.{IsTagBefore, AreTags}
use Rattle.nk_runs.proofs.Numbers.{no_dup_fit}
use Rattle.nk_compile.proofs.TagPlaces.{never_itself}

-- elements in an order in which none is before itself have no doubles
pub no_dup_from :
    {X : Type 0} (R : X → X → Type 0) → ((x : X) → R x x → ⊥) → (xs : List X) → AllPairs R xs → NoDup xs
no_dup_from R never [] h = tt
no_dup_from R never (x ∷ xs) h = (λ i. never x (first_before R x xs h x i), no_dup_from R never xs (rest_in_order R x xs h))

pub tags_fit :
    (p : Policy) (Start : List ℕ → Type 0) (tags : List (List ℕ)) (most : ℕ) → AreTags p Start tags
    → AtMost most (IsTagSet p Start) → length tags ≤ most
tags_fit p Start tags most in_order few =
    let apart = no_dup_from (IsTagBefore p Start) (never_itself p Start) tags in_order.in_order in
    let le = no_dup_fit tags few.0 apart (λ s i. in_from_contains few.0 s (few.2 s ((in_order.exactly s).0 (contains_from_in tags s i)))) in
    omega (arith, le, few.1)
