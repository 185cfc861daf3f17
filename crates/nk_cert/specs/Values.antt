-- Certificates and verdicts in memory as those of the definitions.
use Rattle.std.specs.Prelude.{ℕ, List, map}
use Rattle.nk_policy.specs.Tree.{tree_of}
use Rattle.nk_policy.specs.declared.policy.Pol.{Pol}
use Rattle.nk_cert.specs.declared.certificate.Certificate.{Certificate}
use Rattle.nk_cert.specs.declared.certificate.CertPart.{CertPart}
use Rattle.nk_cert.specs.declared.certificate.CertPart.TheVariants.{Position, Start, Finals, Hop}
use Rattle.nk_cert.specs.declared.certificate.Verdict.{Verdict}
use Rattle.nk_cert.specs.declared.certificate.Verdict.TheVariants.{Valid, Invalid}
use Rattle.nk_cert.specs.Certificates.{RowValue, CertificateValue}
use Rattle.nk_cert.specs.Verdicts.{RowPart, position_part, start_part, finals_part, hop_part, Finding, valid, invalid}

-- a row that is held: its positions and its predicate
abbrev pub held_row_value : List ℕ × Pol → RowValue
held_row_value r = record { positions = r.0; predicate = tree_of r.1 }

-- the rows that are held
abbrev pub row_values : List (List ℕ × Pol) → List RowValue
row_values rows = map held_row_value rows

-- the certificate that is held
abbrev pub certificate_value : Certificate → CertificateValue
certificate_value c = record { start = tree_of c.start; rows = row_values c.rows }

-- a part that is named
abbrev pub row_part : CertPart → RowPart
row_part Position = position_part
row_part Start = start_part
row_part Finals = finals_part
row_part Hop = hop_part

-- the finding that a verdict tells
abbrev pub finding_of : Verdict → Finding
finding_of Valid = valid
finding_of (Invalid row part) = invalid row (row_part part)
