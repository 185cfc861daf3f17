-- What the difference of two named policies is answered.
use Rattle.std.specs.Prelude.{◌≡◌, ◌⊎◌, ⊤, Result, Ok, Err, Some, None, ℕ, List}
use Rattle.nk_policy.specs.Policy.{Policy}
use Rattle.nk_names.specs.declared.Program.{Program}
use Rattle.nk_names.specs.Named.{policy_named}
use Rattle.nk_difference.specs.Difference.{IsDifferenceOf}
use Rattle.nk_difference.specs.declared.predicates.Difference.{Difference}
use Rattle.nk_bisim.specs.declared.answer.CompareError.{CompareError}
use Rattle.nk_bisim.specs.declared.answer.CompareError.TheVariants.{NoMemory, NoPolicy}

-- both names are policies', whose difference this is; or one of them is none; running out of memory says nothing
abbrev pub IsNamedDifference : Program → List ℕ → List ℕ → Result Difference CompareError → Type 0
IsNamedDifference program left right (Ok d) =
    (p : Policy) × (q : Policy) × (policy_named program left ≡ Some p) × (policy_named program right ≡ Some q) × IsDifferenceOf program.fields p q d
IsNamedDifference program left right (Err NoMemory) = ⊤
IsNamedDifference program left right (Err NoPolicy) = (policy_named program left ≡ None) ⊎ (policy_named program right ≡ None)
