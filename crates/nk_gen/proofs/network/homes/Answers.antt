use Rattle.std.proofs.Common.{arith}
use Rattle.nk_gen.specs.Network.{homes_by}
use Rattle.nk_gen.proofs.Steps.{homes_more}
use Rattle.nk_gen.proofs.network.homes.Goals as goal

pub loop-i-preserved : goal.loop-i-preserved
loop-i-preserved c =
    homes_more c.loop-i.homes.items c.push.new.self.items c.args.draws.now c.loop-i.i c.home_of.result (homes_by c.args.draws.now) (omega arith)
    c.in_ok-push.ensures.items c.home_of.ensures c.loop-i.invariant
