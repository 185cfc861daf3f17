use Rattle.nk_tabtext.proofs.Whole.{reads_as_whole}
use Rattle.nk_tabtext.proofs.laws.a_text_is_read_token_by_token.Goals as goal

pub returns : goal.returns
returns c = reads_as_whole
