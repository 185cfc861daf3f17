use Rattle.nk_auto.proofs.Going.{range_through}
use Rattle.nk_auto.proofs.going_on.after_range.Goals as goal

pub returns-clause-ok : goal.returns-clause-ok
returns-clause-ok c =
    range_through c.silent_range.new.st c.at_packets.new.st c.in_ok-d.d c.args.next c.in_ok-r.r c.args.f c.args.ends.0 c.args.ends.1 c.at_packets.ensures.grows c.in_ok-d.ensures.ok c.in_ok-d.ensures.predicate (c.silent_range.ensures.grows.ids c.args.next c.requires) c.in_ok-r.ensures.ok
