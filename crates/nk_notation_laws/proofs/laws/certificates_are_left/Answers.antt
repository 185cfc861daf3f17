use Rattle.nk_notation_laws.proofs.Printed.{certificates_left}
use Rattle.nk_notation_laws.proofs.laws.certificates_are_left.Goals as goal

pub returns : goal.returns
returns c = certificates_left
