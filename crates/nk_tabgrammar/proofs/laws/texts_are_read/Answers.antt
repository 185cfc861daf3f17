use Rattle.nk_tabgrammar.proofs.Answering.{reads}
use Rattle.nk_tabgrammar.proofs.laws.texts_are_read.Goals as goal

pub returns : goal.returns
returns c = reads
