use Rattle.nk_runs.proofs.Walking.{ends_given, given_walked}
use Rattle.nk_runs.proofs.laws.ends_are_histories.Goals as goal

pub returns-clause-ends : goal.returns-clause-ends
returns-clause-ends c = λ st states p a d tidy pk u n last r w. ends_given st states p a d tidy pk u n last r w

pub returns-clause-walked : goal.returns-clause-walked
returns-clause-walked c = λ st states p a d tidy pk u last r g. given_walked st states p a d tidy pk u last r g
