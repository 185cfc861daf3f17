use Rattle.nk_grammar.proofs.CertifiedAnswering.{unique}
use Rattle.nk_grammar.proofs.laws.a_certified_text_has_one_tree.Goals as goal

pub returns : goal.returns
returns c = unique
