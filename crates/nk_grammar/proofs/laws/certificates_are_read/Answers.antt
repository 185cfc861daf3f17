use Rattle.nk_grammar.proofs.NestedRows.{certificates_read}
use Rattle.nk_grammar.proofs.laws.certificates_are_read.Goals as goal

pub returns : goal.returns
returns c = certificates_read
