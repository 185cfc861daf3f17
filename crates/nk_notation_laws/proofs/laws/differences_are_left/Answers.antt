use Rattle.nk_notation_laws.proofs.PrintedHistories.{differences_left}
use Rattle.nk_notation_laws.proofs.laws.differences_are_left.Goals as goal

pub returns : goal.returns
returns c = differences_left
