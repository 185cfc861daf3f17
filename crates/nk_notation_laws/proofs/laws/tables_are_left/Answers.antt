use Rattle.nk_notation_laws.proofs.PrintedTables.{tables_left}
use Rattle.nk_notation_laws.proofs.laws.tables_are_left.Goals as goal

pub returns : goal.returns
returns c = tables_left
