use Rattle.nk_auto.proofs.Going.{test_through}
use Rattle.nk_auto.proofs.going_on.after_test.Goals as goal

pub returns-clause-ok : goal.returns-clause-ok
returns-clause-ok c =
    test_through c.silent_test.new.st c.at_packets.new.st c.in_ok-d.d c.args.next c.in_ok-r.r c.args.f c.args.n c.at_packets.ensures.grows c.in_ok-d.ensures.ok c.in_ok-d.ensures.predicate (c.silent_test.ensures.grows.ids c.args.next c.requires) c.in_ok-r.ensures.ok
