use Rattle.nk_grammar.proofs.Together.{moves}
use Rattle.nk_grammar.proofs.laws.certificates_are_moved.Goals as goal

pub returns : goal.returns
returns c = moves
