use Rattle.nk_lex.proofs.Standing.{values_are_small}
use Rattle.nk_lex.proofs.laws.values_are_small.Goals as goal

pub returns : goal.returns
returns c = values_are_small
