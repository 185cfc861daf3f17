use Rattle.std.proofs.Common.{ℕ, take}
use Rattle.nk_sim.specs.Flights.{HaveTrails, AreCrossed}
use Rattle.nk_sim.proofs.transit.cross.Given as goal

-- the copies so far have crossed
abbrev pub invariant-loop-copy : goal.invariant-loop-copy
invariant-loop-copy l =
    (k : ℕ) → HaveTrails l.fn.crossings.items k l.sent
    → AreCrossed l.t l.fn.crossings.items l.crossings.items k (take l.copy-index l.sent) l.next.items
