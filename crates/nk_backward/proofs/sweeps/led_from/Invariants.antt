use Rattle.std.proofs.Common.{[]}
use Rattle.nk_store.specs.StoreState.{Grows}
use Rattle.nk_backward.specs.Closures.{AreFound}
use Rattle.nk_backward.specs.Sweeps.{IsLedBy}
use Rattle.nk_backward.proofs.sweeps.led_from.Given as goal

abbrev pub invariant-loop-i : goal.invariant-loop-i
invariant-loop-i l = record {
  grows : Grows l.fn.st l.st;
  made : AreFound l.fn.st (IsLedBy l.fn.st l.t l.i l.back) [] l.st l.found;
}
