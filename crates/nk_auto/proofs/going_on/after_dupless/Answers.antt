use Rattle.nk_policy.specs.Tree.{tree_of}
use Rattle.nk_auto.proofs.Going.{dupless_through, dupless_to_nothing}
use Rattle.nk_auto.proofs.going_on.after_dupless.Goals as goal

pub returns-clause-ok : goal.returns-clause-ok
returns-clause-ok c =
    dupless_through c.silent.new.st c.ended_then.new.st c.in_ok-alone.alone c.args.next c.in_ok-d.d (tree_of c.args.p.now) c.requires.dupless c.laws.ensures.tidy c.ended_then.ensures.grows c.in_ok-alone.ensures.ok (c.silent.ensures.grows.ids c.args.next c.requires.next) c.in_ok-d.ensures.ok

pub returns-then-drops-clause-ok : goal.returns-then-drops-clause-ok
returns-then-drops-clause-ok c =
    dupless_to_nothing c.args.st.now c.args.next (tree_of c.args.p.now) c.requires.dupless c.requires.next (c.drops.ensures.yes c.if-drops.true)
