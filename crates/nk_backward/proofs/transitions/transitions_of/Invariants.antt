use Rattle.std.proofs.Common.{take}
use Rattle.nk_store.specs.StoreState.{Grows}
use Rattle.nk_determ.specs.Sets.{SetsGrow}
use Rattle.nk_backward.specs.Transitions.{AreTransitions}
use Rattle.nk_backward.proofs.transitions.transitions_of.Given as goal

abbrev pub invariant-loop-k : goal.invariant-loop-k
invariant-loop-k l = record {
  grows : Grows l.fn.st l.st;
  sets : SetsGrow l.fn.ss l.ss;
  made : AreTransitions l.fn.st l.fn.ss l.states (take l.k l.entries) l.st l.ss l.all;
}
