use Rattle.nk_flight.proofs.Noting
use Rattle.nk_flight.proofs.laws.the_first_step_decides.Goals as goal

pub returns-clause-noted : goal.returns-clause-noted
returns-clause-noted c = λ g s i f e none. Noting.first_decides g s i f e none

pub returns-clause-stays : goal.returns-clause-stays
returns-clause-stays c = λ g es s n v e. Noting.version_stays g es s n v e

pub returns-clause-unhandled : goal.returns-clause-unhandled
returns-clause-unhandled c = λ g e s n none. Noting.unhandled g e s n none
