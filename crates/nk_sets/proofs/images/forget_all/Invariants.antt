use Rattle.std.proofs.Common.{take}
use Rattle.nk_store.specs.StoreState.{Grows}
use Rattle.nk_sets.specs.Images.{IsFree}
use Rattle.nk_sets.proofs.images.forget_all.Given as goal

abbrev pub invariant-loop-f : goal.invariant-loop-f
invariant-loop-f l = record {
  grows : Grows l.fn.st l.st;
  free : IsFree l.fn.st (take l.f-index l.f-items) l.fn.s l.st l.free;
}
