use Rattle.nk_check.proofs.Soundness.{shows_equality}
use Rattle.nk_cert.proofs.Together.{sides_of}
use Rattle.nk_check.proofs.laws.a_certificate_shows_equality.Goals as goal

pub returns-clause-sides : goal.returns-clause-sides
returns-clause-sides c = λ fields p q sides rp rq cert is. shows_equality fields p q sides rp rq cert is

pub returns-clause-numbered : goal.returns-clause-numbered
returns-clause-numbered c = λ fields p q numbered rp rq cert is. shows_equality fields p q (sides_of p q numbered) rp rq cert is
