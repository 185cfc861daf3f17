-- What comparing two names answers.
pub use Rattle.nk_cert.specs.Comparison.{whose, IsRelated, IsComparison}
use Rattle.std.specs.Prelude.{◌≡◌, ℕ, ◌⊎◌, ⊤, Result, Ok, Err, Some, None, List}
use Rattle.nk_policy.specs.Policy.{Policy}
use Rattle.nk_names.specs.declared.Program.{Program}
use Rattle.nk_names.specs.Named.{policy_named}
use Rattle.nk_cert.specs.declared.compared.Compared.{Compared}
use Rattle.nk_bisim.specs.declared.answer.CompareError.{CompareError}
use Rattle.nk_bisim.specs.declared.answer.CompareError.TheVariants.{NoMemory, NoPolicy}

-- both names are policies', which compare so; or one of them is none; running out of memory says nothing
abbrev pub IsCompared : Program → List ℕ → List ℕ → Result Compared CompareError → Type 0
IsCompared program left right (Ok r) =
    (p : Policy) × (q : Policy) × (policy_named program left ≡ Some p) × (policy_named program right ≡ Some q) × IsComparison program.fields p q r
IsCompared program left right (Err NoMemory) = ⊤
IsCompared program left right (Err NoPolicy) = (policy_named program left ≡ None) ⊎ (policy_named program right ≡ None)
