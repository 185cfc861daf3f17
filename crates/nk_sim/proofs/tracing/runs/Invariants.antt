use Rattle.nk_sim.specs.Flights.{AreWaiting}
use Rattle.nk_sim.proofs.tracing.runs.Given as goal

-- these copies wait
abbrev pub invariant-loop-step : goal.invariant-loop-step
invariant-loop-step l = AreWaiting l.t l.p l._step l.crossings.items l.waiting.items
