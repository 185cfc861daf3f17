use Rattle.nk_notation.proofs.ReadBack.{values_back}
use Rattle.nk_notation.proofs.laws.values_are_read_back.Goals as goal

pub returns : goal.returns
returns c = values_back
