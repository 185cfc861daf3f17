use Rattle.nk_names.proofs.ReadingBack.{reads_printed}
use Rattle.nk_names.proofs.laws.what_is_printed_is_read_back.Goals as goal

pub returns : goal.returns
returns c = reads_printed c.let_texts_are_read.ensures
