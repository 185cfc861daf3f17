use Rattle.nk_grammar.proofs.CertificateTexts.{certificate_texts_read}
use Rattle.nk_grammar.proofs.laws.certificate_texts_are_read.Goals as goal

pub returns : goal.returns
returns c = certificate_texts_read c.a_text_of_lexemes_is_cut_into_them.ensures
