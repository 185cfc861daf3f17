use Rattle.std.proofs.Common.{◌≤◌, drop, length}
use Rattle.nk_store.specs.StoreState.{Grows}
use Rattle.nk_determ.specs.Sets.{SetsGrow}
use Rattle.nk_group.specs.Classed.{IsActingState}
use Rattle.nk_group.proofs.acting.acting_state.Given as goal

-- the diagram is that of the tags from here on
abbrev pub invariant-loop-i : goal.invariant-loop-i
invariant-loop-i l = record {
  within : l.i ≤ length l.acting;
  grows : Grows l.fn.st l.st;
  sets : SetsGrow l.fn.ss l.ss;
  made : IsActingState l.st l.ss l.states l.tags l.tag l.sw (drop l.i l.acting) l.h.other l.d;
}

abbrev pub decreases-loop-i : goal.decreases-loop-i
decreases-loop-i l = l.i
