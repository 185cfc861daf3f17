use Rattle.std.proofs.Common.{rules}
use Rattle.nk_flight.proofs.HeldPackets.{one_more_fed}
use Rattle.nk_flight.proofs.packet_pool.HeldPacketHash.hash.Goals as goal

pub loop-place-preserved : goal.loop-place-preserved
loop-place-preserved g c = search (rules, one_more_fed g.H.Hasher.write c.args.self.now c.args.state.now c.loop-place.state c.write_u64.new.self c.loop-place.place c.get.result)
