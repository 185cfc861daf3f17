use Rattle.nk_notation.proofs.ReadBack.{numbers_back}
use Rattle.nk_notation.proofs.laws.numbers_come_back.Goals as goal

pub returns : goal.returns
returns c = numbers_back
