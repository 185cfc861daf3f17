use Rattle.std.proofs.Common.{◌≡◌, take}
use Rattle.std.specs.List.{flat_map}
use Rattle.nk_flight.specs.Trails.{hop_of}
use Rattle.nk_flight.proofs.hops.cross.Given as goal

-- the hops of the packets so far
abbrev pub invariant-loop-packet : goal.invariant-loop-packet
invariant-loop-packet l = l.next.items ≡ flat_map (hop_of l.t l.place l.hop) (take l.packet-index l.sent)
