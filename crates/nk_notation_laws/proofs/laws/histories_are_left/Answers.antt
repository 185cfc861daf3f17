use Rattle.nk_notation_laws.proofs.Pieces.{histories_left}
use Rattle.nk_notation_laws.proofs.laws.histories_are_left.Goals as goal

pub returns : goal.returns
returns c = histories_left
