use Rattle.std.proofs.Common.{◌++◌, ◌<◌, ℕ, List}
use Rattle.nk_store.specs.StoreState.{StoreState, Grows}
use Rattle.nk_determ.specs.Sets.{SetsGrow}
use Rattle.nk_merge.specs.DisjointCopies.{IsDisjointCopy}
use Rattle.nk_compact.specs.Told.{AreDistinguished, IsBase, pairs_after}
use Rattle.nk_compact.proofs.histories.distinguish_from_later.Given as goal

-- the row so far is told
abbrev pub invariant-loop-j : goal.invariant-loop-j
invariant-loop-j l = record {
  following : l.i < l.j;
  grows : Grows l.fn.st l.st;
  sets : SetsGrow l.fn.ss l.ss;
  disjoint : IsDisjointCopy l.st l.states l.disjoint;
  told : (base : StoreState) (first : List (List ℕ)) (pairs : List (ℕ × ℕ)) → IsBase base first l.fn.st l.fn.ss l.states l.tags l.firsts → AreDistinguished base l.states first l.tags l.firsts pairs l.fn.all
      → AreDistinguished base l.states first l.tags l.firsts (pairs ++ pairs_after l.i l.j) l.all;
}
