use Rattle.nk_policy.specs.Tree.{tree_of}
use Rattle.nk_check.proofs.Predicates.{packets_are}
use Rattle.nk_check.proofs.packets.packets_of.Goals as goal

pub returns-clause-ok : goal.returns-clause-ok
returns-clause-ok c =
    packets_are c.silent.new.st c.negate.new.st c.negate-2.new.st c.in_ok-kept.kept c.in_ok-others.others c.in_ok-packets.packets (tree_of c.args.predicate.now) c.requires
    c.negate.ensures.grows c.negate-2.ensures.grows c.in_ok-kept.ensures.ok c.in_ok-others.ensures.ok c.in_ok-packets.ensures.ok c.in_ok-packets.ensures.predicate
