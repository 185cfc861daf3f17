use Rattle.nk_flight.proofs.Mixture
use Rattle.nk_flight.proofs.Noting
use Rattle.nk_flight.proofs.laws.no_mixture.Goals as goal

pub returns-clause-counts : goal.returns-clause-counts
returns-clause-counts c = λ p es i pk ok tags enter e. Mixture.no_mixture p ok tags es enter i pk e

pub returns-clause-each : goal.returns-clause-each
returns-clause-each c = λ p es i k pk v these ok tags enter e is l. Noting.each_by_version p ok tags es enter i pk e v is k these l
