use Rattle.nk_store.specs.StoreState.{Grows}
use Rattle.nk_witness.specs.Preimages.{IsPreimageByOuts}
use Rattle.nk_witness.proofs.preimages.preimage_by_outs.Given as goal

abbrev pub invariant-loop-i : goal.invariant-loop-i
invariant-loop-i l = record {
  grows : Grows l.fn.st l.st;
  made : IsPreimageByOuts l.fn.st l.outs l.i l.next l.st l.all;
}
