use Rattle.std.proofs.Common.{ap}
use Rattle.nk_virtual.proofs.Places.{listed_more}
use Rattle.nk_virtual.proofs.literal.ends_of.Goals as goal

pub loop-k-preserved : goal.loop-k-preserved
loop-k-preserved c =
    listed_more c.args.links.now c.loop-k.k-index c.k-item.result (c.k.inside.from_switch, c.k.inside.from_port, c.k.inside.to_switch, c.k.inside.to_port)
    c.loop-k.ends.keys c.insert.new.self.keys c.requires c.loop-k-test.true c.k-item.is (ap (λ k. k.ends) c.k.view_is) c.in_ok-insert.ensures.keys
    c.loop-k.invariant
