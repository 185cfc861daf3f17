use Rattle.nk_notation_laws.proofs.PrintedHistories.{traces_left}
use Rattle.nk_notation_laws.proofs.laws.traces_are_left.Goals as goal

pub returns : goal.returns
returns c = traces_left
