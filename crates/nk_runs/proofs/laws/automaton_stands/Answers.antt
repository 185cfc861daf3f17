use Rattle.nk_runs.proofs.Stands.{stands, are_states}
use Rattle.nk_runs.proofs.laws.automaton_stands.Goals as goal

pub returns-clause-stands : goal.returns-clause-stands
returns-clause-stands c = λ st new states first p a g. stands st new states first p a g

pub returns-clause-states : goal.returns-clause-states
returns-clause-states c = λ st states p a. are_states st states p a
