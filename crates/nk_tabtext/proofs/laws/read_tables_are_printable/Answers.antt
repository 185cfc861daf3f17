use Rattle.nk_tabtext.proofs.Printable.{answers_printable}
use Rattle.nk_tabtext.proofs.laws.read_tables_are_printable.Goals as goal

pub returns : goal.returns
returns c = answers_printable
