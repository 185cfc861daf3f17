-- What a certificate of two named policies is answered.
use Rattle.std.specs.Prelude.{◌≡◌, ℕ, ◌+◌, ◌⊎◌, ⊤, Result, Ok, Err, Some, None, List}
use Rattle.nk_policy.specs.Policy.{Policy, marked_from, dups_of}
use Rattle.nk_names.specs.declared.Program.{Program}
use Rattle.nk_names.specs.Named.{policy_named}
use Rattle.nk_cert.specs.declared.certificate.Verdict.{Verdict}
use Rattle.nk_check.specs.declared.error.CheckError.{CheckError}
use Rattle.nk_check.specs.declared.error.CheckError.TheVariants.{NoMemory, NoPolicy}
use Rattle.nk_cert.specs.Certificates.{CertificateValue}
use Rattle.nk_cert.specs.Equality.{AreSame}
use Rattle.nk_cert.specs.Verdicts.{IsFinding, valid}
use Rattle.nk_cert.specs.Values.{finding_of}

-- both names are policies', and this is found of the certificate of the two, the dups of the second one numbered on from
-- those of the first; where that is that it is valid, both policies give the same histories on every packet in range; or one of
-- them is none; running out of memory says nothing
abbrev pub IsChecked : Program → List ℕ → List ℕ → CertificateValue → Result Verdict CheckError → Type 0
IsChecked program left right c (Ok v) =
    (p : Policy) × (q : Policy) × (policy_named program left ≡ Some p) × (policy_named program right ≡ Some q) × IsFinding program.fields p (marked_from q (1 + dups_of p)) c (finding_of v)
    × (finding_of v ≡ valid → AreSame program.fields p q)
IsChecked program left right c (Err NoMemory) = ⊤
IsChecked program left right c (Err NoPolicy) = (policy_named program left ≡ None) ⊎ (policy_named program right ≡ None)
