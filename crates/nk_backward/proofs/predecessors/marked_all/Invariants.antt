use Rattle.nk_store.specs.StoreState.{Grows}
use Rattle.nk_backward.specs.Predecessors.{AreMarked}
use Rattle.nk_backward.proofs.predecessors.marked_all.Given as goal

abbrev pub invariant-loop-n : goal.invariant-loop-n
invariant-loop-n l = record {
  grows : Grows l.fn.st l.st;
  made : AreMarked l.fn.st l.ts l.places l.n l.st l.all;
}
