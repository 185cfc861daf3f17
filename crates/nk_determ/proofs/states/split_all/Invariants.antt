use Rattle.std.proofs.Common.{◌≡◌, length}
use Rattle.nk_store.specs.StoreState.{Grows}
use Rattle.nk_determ.specs.States.{HaveEach}
use Rattle.nk_determ.proofs.Together.{split_each}
use Rattle.nk_determ.proofs.states.split_all.Given as goal

abbrev pub invariant-loop-whole : goal.invariant-loop-whole
invariant-loop-whole l = record {
  grows : Grows l.fn.st l.st;
  len : length l.ds ≡ l.whole-index;
  split : HaveEach l.st l.ds (split_each l.fn.st l.diagrams) l.whole-index;
}
