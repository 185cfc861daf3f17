use Rattle.std.proofs.Common.{◌≡◌, take}
use Rattle.std.specs.List.{flat_map}
use Rattle.nk_sim.specs.Flights.{left_by_hops}
use Rattle.nk_sim.proofs.transit.leave.Given as goal

-- the histories of the copies so far
abbrev pub invariant-loop-copy : goal.invariant-loop-copy
invariant-loop-copy l = l.left.items ≡ flat_map (left_by_hops l.t l.crossings l.k) (take l.copy-index l.sent)
