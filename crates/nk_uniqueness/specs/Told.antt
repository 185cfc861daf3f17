-- What comparing two policies tells, and what checking a certificate of two policies finds, as plain values.
use Rattle.std.specs.Prelude.{◌≡◌, ◌⊎◌, ℕ, ◌+◌, Some, None, List}
use Rattle.nk_field.specs.Order.{Found}
use Rattle.nk_field.specs.Packet.{FieldTable}
use Rattle.nk_policy.specs.Policy.{Policy, marked_from, dups_of}
use Rattle.nk_names.specs.declared.Program.{Program}
use Rattle.nk_names.specs.Named.{policy_named}
use Rattle.nk_witness.specs.Finds.{found_of}
use Rattle.nk_cert.specs.Equality.{Side, IsLeastDifference}
use Rattle.nk_cert.specs.Certificates.{CertificateValue}
use Rattle.nk_cert.specs.Values.{certificate_value}
use Rattle.nk_cert.specs.Verdicts.{Finding, IsFinding}
use Rattle.nk_bisim.specs.Answers.{whose, IsRelated}
use Rattle.nk_cert.specs.declared.compared.Compared.{Compared}
use Rattle.nk_cert.specs.declared.compared.Compared.TheVariants.{Related, Broken}

-- a certificate, or whose history is found, and which
pub data Told : Type 0 where
  certified : CertificateValue → Told
  alone : Side → Found → Told

-- what a comparison in memory tells
abbrev pub told_of : Compared → Told
told_of (Related c) = certified (certificate_value c)
told_of (Broken f) = alone (whose f.side) (found_of f)

-- what is told is so: both policies give the same histories, and the certificate is their printed one; or it is the least
-- history that one of them alone has
abbrev pub IsTold : FieldTable → Policy → Policy → Told → Type 0
IsTold fields p q (certified c) = IsRelated fields p q c
IsTold fields p q (alone side found) = IsLeastDifference fields p q side found

-- one of these names is no policy's
abbrev pub LacksOne : Program → List ℕ → List ℕ → Type 0
LacksOne program left right = (policy_named program left ≡ None) ⊎ (policy_named program right ≡ None)

-- what is told of the policies of these names is so
abbrev pub IsToldFor : Program → List ℕ → List ℕ → Told → Type 0
IsToldFor program left right told =
    (p : Policy) × (q : Policy) × (policy_named program left ≡ Some p) × (policy_named program right ≡ Some q) × IsTold program.fields p q told

-- this is found of a certificate for the policies of these names, the dups of the right one numbered on from the left one's
abbrev pub IsFoundFor : Program → List ℕ → List ℕ → CertificateValue → Finding → Type 0
IsFoundFor program left right c found =
    (p : Policy) × (q : Policy) × (policy_named program left ≡ Some p) × (policy_named program right ≡ Some q) × IsFinding program.fields p (marked_from q (1 + dups_of p)) c found
