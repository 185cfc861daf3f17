use Rattle.nk_policy.specs.Tree.{tree_of}
use Rattle.nk_auto.proofs.Going.{star_through}
use Rattle.nk_auto.proofs.going_on.star_without_dup.Goals as goal

pub returns-clause-ok : goal.returns-clause-ok
returns-clause-ok c =
    star_through c.silent_star.new.st c.ended_then.new.st c.in_ok-rounds.rounds c.args.next c.in_ok-d.d (tree_of c.args.q.now) c.requires.dupless c.laws.ensures.tidy c.ended_then.ensures.grows c.in_ok-rounds.ensures.ok (c.silent_star.ensures.grows.ids c.args.next c.requires.next) c.in_ok-d.ensures.ok
