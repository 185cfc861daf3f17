use Rattle.nk_sim.specs.Flights.{IsAt}
use Rattle.nk_sim.proofs.tracing.trace.Given as goal

-- so far the packet has been followed
abbrev pub invariant-loop-k : goal.invariant-loop-k
invariant-loop-k l = IsAt l.t l.p l.k l.state
