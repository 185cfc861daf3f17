use Rattle.nk_store.specs.StoreState.{Grows}
use Rattle.nk_backward.specs.Closures.{IsTakenBelow, AreFound}
use Rattle.nk_backward.proofs.closure.take_outs.Given as goal

abbrev pub invariant-loop-i : goal.invariant-loop-i
invariant-loop-i l = record {
  grows : Grows l.fn.st l.st;
  made : AreFound l.fn.st (IsTakenBelow l.fn.st l.ts l.places l.outs l.i) l.fn.found l.st l.found;
}
