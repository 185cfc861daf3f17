use Rattle.nk_witness.proofs.Settling.{settled}
use Rattle.nk_witness.proofs.laws.levels_stay.Goals as goal

pub returns : goal.returns
returns c = settled
