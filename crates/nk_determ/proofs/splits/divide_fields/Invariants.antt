use Rattle.nk_store.specs.StoreState.{look, Grows, HasLeaves}
use Rattle.nk_determ.specs.Unchanged.{split_below}
use Rattle.nk_determ.proofs.splits.divide_fields.Given as goal

abbrev pub invariant-loop-place : goal.invariant-loop-place
invariant-loop-place l = record {
  grows : Grows l.fn.st l.st;
  split : HasLeaves l.st l.r (λ pk. split_below l.place l.fn.st.maxes pk (look l.fn.st l.fn.d pk));
}
