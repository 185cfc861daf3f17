use Rattle.nk_store.specs.UniqueTables.{IsWalk}
use Rattle.nk_store.proofs.unique_table.find.Given as goal

abbrev pub invariant-loop-next : goal.invariant-loop-next
invariant-loop-next g l = IsWalk g.T.PartialEq.eq g.T.Digest.number l.entries l.item l.next

abbrev pub decreases-loop-next : goal.decreases-loop-next
decreases-loop-next g l = l.next
