use Rattle.nk_lex.proofs.Joining.{joins}
use Rattle.nk_lex.proofs.laws.texts_are_joined.Goals as goal

pub returns : goal.returns
returns c = joins
