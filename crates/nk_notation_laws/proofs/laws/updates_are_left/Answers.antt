use Rattle.nk_notation_laws.proofs.PrintedHistories.{updates_left}
use Rattle.nk_notation_laws.proofs.laws.updates_are_left.Goals as goal

pub returns : goal.returns
returns c = updates_left
