use Rattle.std.proofs.Common.{◌≡◌}
use Rattle.nk_flight.specs.Draws.{draw, after_draws}
use Rattle.nk_flight.specs.Flights.{injected, nothing_in_flight}
use Rattle.nk_flight.proofs.drawn.fly.Given as goal

-- the draws so far
abbrev pub invariant-loop-step : goal.invariant-loop-step
invariant-loop-step l = record {
  draws : l.draw ≡ draw l.seed l._step;
  steps : l.flight ≡ after_draws l.seed l._step (injected l.p (nothing_in_flight l.t));
}
