use Rattle.nk_certtext.proofs.ReadingBack.{certificates_back}
use Rattle.nk_certtext.proofs.laws.printed_certificates_are_read.Goals as goal

pub returns : goal.returns
returns c =
    certificates_back c.declared_fields_are_writable.ensures c.printed_predicates_are_read_back.ensures c.certificate_texts_are_read.ensures
    c.a_program_and_a_certificate_are_read_together.ensures
