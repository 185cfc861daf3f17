use Rattle.std.proofs.Common.{length}
use Rattle.nk_store.specs.StoreState.{Grows}
use Rattle.nk_determ.specs.Sets.{SetsGrow}
use Rattle.nk_merge.specs.DisjointCopies.{IsDisjointCopy}
use Rattle.nk_compact.specs.Told.{AreDistinguished, first_pairs}
use Rattle.nk_compact.proofs.histories.distinguishing_histories.Given as goal

-- the rows so far are told
abbrev pub invariant-loop-i : goal.invariant-loop-i
invariant-loop-i l = record {
  grows : Grows l.fn.st l.st;
  sets : SetsGrow l.fn.ss l.ss;
  disjoint : IsDisjointCopy l.st l.states l.disjoint;
  told : AreDistinguished l.fn.st l.states l.fn.ss l.tags l.firsts (first_pairs (length l.firsts) l.i) l.all;
}
