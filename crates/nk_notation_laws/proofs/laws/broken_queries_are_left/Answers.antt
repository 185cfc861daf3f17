use Rattle.nk_notation_laws.proofs.PrintedHistories.{broken_left}
use Rattle.nk_notation_laws.proofs.laws.broken_queries_are_left.Goals as goal

pub returns : goal.returns
returns c = broken_left
