use Rattle.nk_notation_laws.proofs.PlainTexts.{plain_left}
use Rattle.nk_notation_laws.proofs.laws.plain_texts_are_left.Goals as goal

pub returns : goal.returns
returns c = plain_left
