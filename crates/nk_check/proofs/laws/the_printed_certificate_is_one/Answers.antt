use Rattle.nk_cert.proofs.Printing.{is_certificate}
use Rattle.nk_check.proofs.laws.the_printed_certificate_is_one.Goals as goal

pub returns : goal.returns
returns c = λ fields p q sides rp rq same cert printed. is_certificate fields p q sides rp rq same cert printed
