use Rattle.std.proofs.Common.{false}
use Rattle.nk_store.specs.StoreState.{Grows}
use Rattle.nk_backward.specs.Sweeps.{IsSwept}
use Rattle.nk_backward.proofs.sweeps.sweep_some.Given as goal

abbrev pub invariant-sweeps : goal.invariant-sweeps
invariant-sweeps l = record {
  grows : Grows l.fn.st l.st;
  made : IsSwept l.fn.st l.ts l.fn.back l.st l.back false;
}
