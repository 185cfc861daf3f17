use Rattle.nk_lex.proofs.Cutting.{cuts}
use Rattle.nk_lex.proofs.laws.a_text_of_lexemes_is_cut_into_them.Goals as goal

pub returns : goal.returns
returns c = cuts
