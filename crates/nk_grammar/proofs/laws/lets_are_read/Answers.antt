use Rattle.nk_grammar.proofs.Nested.{lets_read}
use Rattle.nk_grammar.proofs.laws.lets_are_read.Goals as goal

pub returns : goal.returns
returns c = lets_read
