use Rattle.nk_policy.specs.Tree.{tree_of}
use Rattle.nk_auto.proofs.Going.{not_through}
use Rattle.nk_auto.proofs.going_on.after_not.Goals as goal

pub returns-clause-ok : goal.returns-clause-ok
returns-clause-ok c =
    not_through c.silent_not.new.st c.at_packets.new.st c.in_ok-d.d c.args.next c.in_ok-r.r (tree_of c.args.q.now) c.at_packets.ensures.grows c.in_ok-d.ensures.ok c.in_ok-d.ensures.predicate (c.silent_not.ensures.grows.ids c.args.next c.requires) c.in_ok-r.ensures.ok
