use Rattle.nk_notation_laws.proofs.Printed.{policies_left}
use Rattle.nk_notation_laws.proofs.laws.policies_are_left.Goals as goal

pub returns : goal.returns
returns c = policies_left
