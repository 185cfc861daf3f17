use Rattle.std.proofs.Common.{[]}
use Rattle.nk_gen.specs.Network.{branches}
use Rattle.nk_gen.proofs.Steps.{lists_pushed}
use Rattle.nk_gen.proofs.network.tree.Goals as goal

pub loop-below-preserved : goal.loop-below-preserved
loop-below-preserved c =
    lists_pushed (branches c.args.size) c.loop-below.below [] c.loop-below.links.items c.add_branches.new.links.items
    c.loop-below.invariant c.in_ok-add_branches.ensures
