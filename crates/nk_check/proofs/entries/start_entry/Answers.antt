use Rattle.nk_policy.specs.Tree.{tree_of}
use Rattle.nk_check.proofs.Standing.{start_there}
use Rattle.nk_check.proofs.entries.start_entry.Goals as goal

pub returns-clause-ok : goal.returns-clause-ok
returns-clause-ok c =
    start_there c.packets_of.new.st c.intern.new.self c.args.count c.in_ok-set.set c.in_ok-packets.packets c.in_ok-start_alone.field-0 (tree_of c.args.predicate.now)
    c.requires.some c.in_ok-start_alone.ensures c.in_ok-set.ensures.ok c.in_ok-packets.ensures.ok
