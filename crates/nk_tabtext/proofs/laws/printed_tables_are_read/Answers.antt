use Rattle.nk_tabtext.proofs.ReadingBack.{reads_printed}
use Rattle.nk_tabtext.proofs.laws.printed_tables_are_read.Goals as goal

pub returns : goal.returns
returns c = reads_printed
