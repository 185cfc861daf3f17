-- What comparing two policies answers.
use Rattle.std.specs.Prelude.{◌+◌}
use Rattle.nk_field.specs.Packet.{FieldTable}
use Rattle.nk_policy.specs.Policy.{Policy, marked_from, dups_of}
use Rattle.nk_witness.specs.Finds.{found_of}
use Rattle.nk_witness.specs.declared.found.Side.{Side}
use Rattle.nk_witness.specs.declared.found.Side.TheVariants.{Left, Right}
use Rattle.nk_cert.specs.Equality.{on_left, on_right, AreSame, IsLeastDifference}
use Rattle.nk_cert.specs.Equality.{Side as SideOfBoth}
use Rattle.nk_cert.specs.Certificates.{CertificateValue, IsCertificate}
use Rattle.nk_cert.specs.Printed.{IsPrinted}
use Rattle.nk_cert.specs.Values.{certificate_value}
use Rattle.nk_cert.specs.declared.compared.Compared.{Compared}
use Rattle.nk_cert.specs.declared.compared.Compared.TheVariants.{Related, Broken}

-- whose history is found
abbrev pub whose : Side → SideOfBoth
whose Left = on_left
whose Right = on_right

-- Both policies give the same histories on every packet. The certificate is the printed one of the two, the dups of the second
-- numbered on from those of the first, and it is a certificate.
pub record IsRelated (fields : FieldTable) (p q : Policy) (c : CertificateValue) : Type 0 where
  pub same : AreSame fields p q
  pub printed : IsPrinted fields p (marked_from q (1 + dups_of p)) c
  pub shows : IsCertificate fields p (marked_from q (1 + dups_of p)) c

-- both policies give the same histories on every packet, and this is their printed certificate; or what is found is the least
-- history that one of them alone has, and the side is that one's
abbrev pub IsComparison : FieldTable → Policy → Policy → Compared → Type 0
IsComparison fields p q (Related c) = IsRelated fields p q (certificate_value c)
IsComparison fields p q (Broken f) = IsLeastDifference fields p q (whose f.side) (found_of f)
