use Rattle.nk_flight.proofs.HeldPackets.{stored_packet}
use Rattle.nk_flight.proofs.packet_pool.PacketPool.place_of.Goals as goal

pub returns-clause-place : goal.returns-clause-place
returns-clause-place c = let s = c.in_ok-place.ensures.stored in stored_packet c.insert_full.new.self.keys c.in_ok-place.place s.0 c.args.p.now s.1 s.2
