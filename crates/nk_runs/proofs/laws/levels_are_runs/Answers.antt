use Rattle.nk_runs.proofs.Labelled.{labelled}
use Rattle.nk_runs.proofs.laws.levels_are_runs.Goals as goal

pub returns : goal.returns
returns c = λ st states start p a d tidy i n. labelled st states start p a d tidy i n
