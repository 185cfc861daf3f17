use Rattle.nk_notation.proofs.Kept.{bytes_same}
use Rattle.nk_notation.proofs.laws.lexemes_are_the_text.Goals as goal

pub returns : goal.returns
returns c = bytes_same
