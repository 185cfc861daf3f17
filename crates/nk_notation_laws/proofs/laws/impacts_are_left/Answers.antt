use Rattle.nk_notation_laws.proofs.PrintedImpacts.{impacts_left}
use Rattle.nk_notation_laws.proofs.laws.impacts_are_left.Goals as goal

pub returns : goal.returns
returns c = impacts_left
