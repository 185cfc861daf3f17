use Rattle.nk_flight.proofs.Turns.{stages_in_turn}
use Rattle.nk_flight.proofs.laws.plan_steps_go_by_stages.Goals as goal

pub returns : goal.returns
returns c = λ g es. stages_in_turn g es
