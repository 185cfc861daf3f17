use Rattle.std.proofs.Common.{take}
use Rattle.nk_store.specs.StoreState.{Grows}
use Rattle.nk_determ.specs.Sets.{SetsGrow}
use Rattle.nk_group.specs.Matched.{Matched}
use Rattle.nk_group.specs.Made.{AreStatesAt}
use Rattle.nk_group.proofs.tag_states.all_states.Given as goal

-- the switches so far have their diagrams
abbrev pub invariant-loop-switch_entry : goal.invariant-loop-switch_entry
invariant-loop-switch_entry l = record {
  grows : Grows l.fn.st l.st;
  sets : SetsGrow l.fn.ss l.ss;
  made : Matched (AreStatesAt l.st l.ss l.states l.tags) (take l.switch_entry-index l.by_switch) l.all;
}
