use Rattle.nk_notation.proofs.ReadBack.{prefixes_back}
use Rattle.nk_notation.proofs.laws.prefixes_are_read_back.Goals as goal

pub returns : goal.returns
returns c = prefixes_back
