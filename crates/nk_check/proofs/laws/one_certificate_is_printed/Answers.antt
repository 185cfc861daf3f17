use Rattle.nk_check.proofs.OneCertificate.{one_printed}
use Rattle.nk_check.proofs.laws.one_certificate_is_printed.Goals as goal

pub returns : goal.returns
returns c = λ fields p q table a b h k. one_printed fields table.few p q a b h k
