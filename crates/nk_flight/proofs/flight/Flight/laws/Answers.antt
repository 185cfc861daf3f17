use Rattle.std.proofs.Common.{subst}
use Rattle.nk_flight.specs.Flights.{IsReached}
use Rattle.nk_flight.proofs.Reached.{reached_counts}
use Rattle.nk_flight.proofs.flight.Flight.laws.Goals as goal

pub returns-clause-reached : goal.returns-clause-reached
returns-clause-reached c = subst IsReached c.self.view_is c.self.invariant.0.reached

pub returns-clause-counts : goal.returns-clause-counts
returns-clause-counts c = λ i k pk e. reached_counts c.args.self.now (subst IsReached c.self.view_is c.self.invariant.0.reached) i k pk e
