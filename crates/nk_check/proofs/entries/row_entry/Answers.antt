use Rattle.nk_policy.specs.Tree.{tree_of}
use Rattle.nk_check.proofs.RowSets.{entry_there}
use Rattle.nk_check.proofs.entries.row_entry.Goals as goal

pub returns-clause-ok : goal.returns-clause-ok
returns-clause-ok c =
    entry_there c.packets_of.new.st c.intern-2.new.self c.args.count c.in_ok-set.set c.in_ok-packets.packets c.args.positions.now c.in_ok-ascending.field-0 (tree_of c.args.predicate.now)
    (c.are_labels.ensures.yes c.if-not-are_labels.false) c.in_ok-set.ensures.ok c.in_ok-ascending.ensures.same c.in_ok-packets.ensures.ok
