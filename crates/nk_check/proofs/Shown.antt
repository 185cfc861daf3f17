-- What is found of a certificate of two named policies, and that both give the same histories where it is valid.
use Rattle.std.proofs.Common.{◌≡◌, ℕ, ◌+◌, Ok, List, sym, subst}
use Rattle.nk_field.specs.declared.packet.Packet.{Packet}
use Rattle.nk_field.specs.Packet.{FieldTable}
use Rattle.nk_policy.specs.Policy.{Policy, marked_from, dups_of}
use Rattle.nk_policy.specs.Meaning.{Way}
use Rattle.nk_policy.proofs.Remade.{marked_ways}
use Rattle.nk_names.specs.declared.Program.{Program}
use Rattle.nk_cert.specs.declared.certificate.Verdict.{Verdict}
use Rattle.nk_check.specs.Answers.{IsChecked}
use Rattle.nk_cert.specs.Certificates.{CertificateValue}
use Rattle.nk_cert.specs.Equality.{AreSame}
use Rattle.nk_cert.specs.Values.{finding_of}
use Rattle.nk_cert.specs.Verdicts.{IsFinding, valid}
use Rattle.nk_cert.specs.Written.{AreWrittenTogether}

-- a policy with its dups numbered anew gives what it gave
same_unmarked : (fields : FieldTable) (p q : Policy) (n : ℕ) → AreSame fields p (marked_from q n) → AreSame fields p q
same_unmarked fields p q n same = λ pk within w y.
    let e = same pk within w y in
    let ways = marked_ways (λ x. x) q n in (
      λ g. subst (λ (R : Way Packet). R pk w y) ways (e.0 g),
      λ g. e.1 (subst (λ (R : Way Packet). R pk w y) (sym ways) g),
    )

-- what is found of two policies written out together is found of the policies of their names
module _ (program : Program) (left right : List ℕ) (p q : Policy) (c : CertificateValue) (v : Verdict)
    (w : AreWrittenTogether program left right p q) where
  pub is_checked : (fields : FieldTable) → fields ≡ program.fields → IsFinding fields p q c (finding_of v)
      → (finding_of v ≡ valid → AreSame fields p q) → IsChecked program left right c (Ok v)
  is_checked fields same_fields found same = (
    p,
    w.on_right.0,
    w.on_left,
    w.on_right.1,
    subst (λ z. IsFinding z p (marked_from w.on_right.0 (1 + dups_of p)) c (finding_of v)) same_fields
        (subst (λ z. IsFinding fields p z c (finding_of v)) w.on_right.2 found),
    λ is.
        subst (λ z. AreSame z p w.on_right.0) same_fields
        (same_unmarked fields p w.on_right.0 (1 + dups_of p) (subst (λ z. AreSame fields p z) w.on_right.2 (same is))),
  )
