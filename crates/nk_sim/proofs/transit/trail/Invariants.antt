use Rattle.std.proofs.Common.{◌≡◌, ◌-◌, ◌++◌}
use Rattle.std.specs.Prelude.{reverse}
use Rattle.nk_sim.specs.Flights.{HasTrail, trail}
use Rattle.nk_sim.proofs.transit.trail.Given as goal

-- the records that are left, and then those so far
abbrev pub invariant-loop-step : goal.invariant-loop-step
invariant-loop-step l = record {
  there : HasTrail l.crossings (l.k - l._step) l.at;
  joined : trail l.crossings (l.k - l._step) l.at ++ reverse l.backwards.items ≡ trail l.crossings l.k l.last;
}
