use Rattle.std.proofs.Common.{arith}
use Rattle.nk_store.proofs.UniqueTables.{none_has}
use Rattle.nk_store.proofs.unique_table.find.Goals as goal

pub returns-clause-absent : goal.returns-clause-absent
returns-clause-absent g c =
    none_has (g.T.PartialEq.eq c.args.item.now) c.args.entries.now
    (λ k e h. c.loop-next.invariant.passed k e (grind (arith, c.loop-next-test.false)) h)
