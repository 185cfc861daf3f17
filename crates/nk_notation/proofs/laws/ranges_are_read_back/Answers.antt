use Rattle.nk_notation.proofs.ReadBack.{ranges_back}
use Rattle.nk_notation.proofs.laws.ranges_are_read_back.Goals as goal

pub returns : goal.returns
returns c = ranges_back
