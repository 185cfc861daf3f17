use Rattle.std.proofs.Common.{◌≡◌}
use Rattle.std.specs.List.{fold}
use Rattle.nk_flight.proofs.HeldPackets.{first_fed}
use Rattle.nk_flight.proofs.packet_pool.HeldPacketHash.hash.Given as goal

-- the values so far are given
abbrev pub invariant-loop-place : goal.invariant-loop-place
invariant-loop-place g l = l.state ≡ fold g.H.Hasher.write l.initial.state (first_fed l.self l.place)
