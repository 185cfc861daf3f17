use Rattle.nk_grammar.proofs.CertifiedAnswering.{answers}
use Rattle.nk_grammar.proofs.laws.certified_texts_are_answered.Goals as goal

pub returns : goal.returns
returns c = answers
