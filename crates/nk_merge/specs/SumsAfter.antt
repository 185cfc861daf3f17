-- What is left of a policy after some of its dups, as one policy.
use Rattle.std.specs.Prelude.{ℕ, List, [], ◌∷◌}
use Rattle.nk_policy.specs.Policy.{Policy, Policies, sum_of, no_part, part}
use Rattle.nk_policy.specs.After.{after}

-- what is left after each of them
abbrev pub parts_after : Policy → List ℕ → Policies
parts_after p [] = no_part
parts_after p (l ∷ ls) = part (after p l) (parts_after p ls)

-- their sum
abbrev pub sum_after : Policy → List ℕ → Policy
sum_after p ls = sum_of (parts_after p ls)
