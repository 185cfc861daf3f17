use Rattle.nk_virtual.proofs.Worked.{all_is_there}
use Rattle.nk_virtual.proofs.laws.worked_premises.Goals as goal

pub returns : goal.returns
returns c = all_is_there
