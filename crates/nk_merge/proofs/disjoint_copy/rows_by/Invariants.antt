use Rattle.nk_store.specs.StoreState.{Grows}
use Rattle.nk_merge.specs.DisjointCopies.{IsDisjointCopyUpTo, AreMadeBy}
use Rattle.nk_merge.proofs.disjoint_copy.rows_by.Given as goal

-- the labels before the next one stand there again
abbrev pub invariant-loop-i : goal.invariant-loop-i
invariant-loop-i l = record {
  grows : Grows l.fn.st l.st;
  upto : IsDisjointCopyUpTo l.fn.st l.st l.states l.rows l.i;
  made : AreMadeBy l.st l.table l.made;
}
