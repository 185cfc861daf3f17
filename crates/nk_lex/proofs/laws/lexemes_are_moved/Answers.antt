use Rattle.nk_lex.proofs.Joining.{lexemes_move}
use Rattle.nk_lex.proofs.laws.lexemes_are_moved.Goals as goal

pub returns : goal.returns
returns c = lexemes_move
