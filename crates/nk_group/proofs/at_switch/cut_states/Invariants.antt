use Rattle.std.proofs.Common.{◌≡◌, length}
use Rattle.nk_store.specs.StoreState.{Grows}
use Rattle.nk_determ.specs.States.{HaveEach}
use Rattle.nk_group.proofs.Cutting.{cut_each}
use Rattle.nk_group.proofs.at_switch.cut_states.Given as goal

-- the states so far are cut
abbrev pub invariant-loop-l : goal.invariant-loop-l
invariant-loop-l l = record {
  grows : Grows l.fn.st l.st;
  len : length l.ds ≡ l.l-index;
  cut : HaveEach l.st l.ds (cut_each l.fn.st l.states l.members l.sw) l.l-index;
}
