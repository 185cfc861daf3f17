use Rattle.std.proofs.Common.{[], take}
use Rattle.nk_store.specs.StoreState.{Grows}
use Rattle.nk_backward.specs.Closures.{IsLedInto, AreFound}
use Rattle.nk_backward.proofs.closure.led_into.Given as goal

abbrev pub invariant-loop-k : goal.invariant-loop-k
invariant-loop-k l = record {
  grows : Grows l.fn.st l.st;
  made : AreFound l.fn.st (IsLedInto l.fn.st l.ts (take l.k l.frontier)) [] l.st l.found;
}
