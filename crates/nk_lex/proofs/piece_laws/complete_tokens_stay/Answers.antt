use Rattle.nk_lex.proofs.Stays.{complete_stay}
use Rattle.nk_lex.proofs.piece_laws.complete_tokens_stay.Goals as goal

pub returns : goal.returns
returns c = complete_stay
