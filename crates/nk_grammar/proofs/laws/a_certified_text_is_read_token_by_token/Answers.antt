use Rattle.nk_grammar.proofs.Progress.{reads_as_whole}
use Rattle.nk_grammar.proofs.laws.a_certified_text_is_read_token_by_token.Goals as goal

pub returns : goal.returns
returns c = reads_as_whole
