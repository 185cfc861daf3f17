use Rattle.std.proofs.Common.{◌≡◌, take}
use Rattle.std.specs.List.{flat_map}
use Rattle.nk_flight.specs.Flights.{left_leaving}
use Rattle.nk_flight.specs.Trails.{hop_at, copy_at}
use Rattle.nk_flight.proofs.hops.leave.Given as goal

-- the histories of the packets so far
abbrev pub invariant-loop-packet : goal.invariant-loop-packet
invariant-loop-packet l =
    l.left.items ≡ flat_map (left_leaving l.t (copy_at l.t.fields l.hops (hop_at l.hops l.place))) (take l.packet-index l.sent)
