use Rattle.nk_gen.specs.Network.{ring_link}
use Rattle.nk_gen.proofs.Steps.{map_pushed}
use Rattle.nk_gen.proofs.network.ring.Goals as goal

pub loop-below-preserved : goal.loop-below-preserved
loop-below-preserved c =
    map_pushed (ring_link c.args.size) c.loop-below.below c.loop-below.links.items c.push.new.self.items c.ring_link.result
    c.loop-below.invariant c.ring_link.ensures c.in_ok-push.ensures.items
