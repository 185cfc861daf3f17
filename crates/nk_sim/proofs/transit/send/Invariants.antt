use Rattle.std.proofs.Common.{◌≡◌, take}
use Rattle.std.specs.List.{flat_map}
use Rattle.nk_sim.specs.Flights.{sent_flying}
use Rattle.nk_sim.proofs.transit.send.Given as goal

-- what is sent for the copies so far
abbrev pub invariant-loop-copy : goal.invariant-loop-copy
invariant-loop-copy l = l.sent.items ≡ flat_map (sent_flying l.t) (take l.copy-index l.waiting)
