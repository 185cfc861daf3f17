use Rattle.nk_check.proofs.Soundness.{shows_equality}
use Rattle.nk_cert.proofs.Printing.{is_certificate}
use Rattle.nk_check.proofs.laws.the_printed_certificate_tells.Goals as goal

pub returns : goal.returns
returns c = λ fields p q sides rp rq cert printed. (
  λ is. shows_equality fields p q sides rp rq cert is,
  λ same. is_certificate fields p q sides rp rq same cert printed,
)
