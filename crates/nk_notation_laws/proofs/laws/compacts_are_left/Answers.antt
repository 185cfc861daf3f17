use Rattle.nk_notation_laws.proofs.PrintedCompacts.{compacts_left}
use Rattle.nk_notation_laws.proofs.laws.compacts_are_left.Goals as goal

pub returns : goal.returns
returns c = compacts_left
