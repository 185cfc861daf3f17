use Rattle.nk_flight.proofs.Entering.{entered, were_entering}
use Rattle.nk_flight.proofs.laws.those_that_came_in_enter.Goals as goal

pub returns-clause-forth : goal.returns-clause-forth
returns-clause-forth c = λ t g es a. entered t g es a

pub returns-clause-back : goal.returns-clause-back
returns-clause-back c = λ t g es a. were_entering t g es a
