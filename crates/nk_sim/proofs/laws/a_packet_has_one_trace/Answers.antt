use Rattle.nk_sim.proofs.OneTrace.{one_trace}
use Rattle.nk_sim.proofs.laws.a_packet_has_one_trace.Goals as goal

pub returns : goal.returns
returns c = one_trace
