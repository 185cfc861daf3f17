use Rattle.nk_certtext.proofs.PrintedCertificates.{prints_printable, prints_predicates, reads_printed_for}
use Rattle.nk_certtext.proofs.laws.certificates_of_policies_are_read.Goals as goal

pub returns-clause-printable : goal.returns-clause-printable
returns-clause-printable c = λ fields table p q compared cert h. prints_printable fields table p q compared cert h

pub returns-clause-predicates : goal.returns-clause-predicates
returns-clause-predicates c = λ fields table p q compared cert h. prints_predicates fields table p q compared cert h

pub returns-clause-read : goal.returns-clause-read
returns-clause-read c = reads_printed_for c.printed_certificates_are_read.ensures c.declared_fields_are_writable.ensures
