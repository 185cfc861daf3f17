use Rattle.nk_auto.proofs.Going.{set_through}
use Rattle.nk_auto.proofs.going_on.after_set.Goals as goal

pub returns-clause-ok : goal.returns-clause-ok
returns-clause-ok c =
    set_through c.silent_set.new.st c.seq.new.st c.in_ok-d.d c.args.next c.in_ok-r.r c.args.f c.args.n c.laws.ensures.tidy c.seq.ensures.grows c.in_ok-d.ensures.ok (c.silent_set.ensures.grows.ids c.args.next c.requires) c.in_ok-r.ensures.ok
