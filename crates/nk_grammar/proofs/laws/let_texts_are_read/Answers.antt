use Rattle.nk_grammar.proofs.LetTexts.{let_texts_read}
use Rattle.nk_grammar.proofs.laws.let_texts_are_read.Goals as goal

pub returns : goal.returns
returns c = let_texts_read c.a_text_of_lexemes_is_cut_into_them.ensures
