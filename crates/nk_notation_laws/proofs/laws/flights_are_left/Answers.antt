use Rattle.nk_notation_laws.proofs.PrintedHistories.{flights_left}
use Rattle.nk_notation_laws.proofs.laws.flights_are_left.Goals as goal

pub returns : goal.returns
returns c = flights_left
