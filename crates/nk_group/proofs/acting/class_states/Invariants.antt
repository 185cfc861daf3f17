use Rattle.std.proofs.Common.{take}
use Rattle.nk_store.specs.StoreState.{Grows}
use Rattle.nk_determ.specs.Sets.{SetsGrow}
use Rattle.nk_group.specs.Matched.{Matched}
use Rattle.nk_group.specs.Classed.{IsClassState}
use Rattle.nk_group.proofs.acting.class_states.Given as goal

-- the classes so far have their diagrams
abbrev pub invariant-loop-h : goal.invariant-loop-h
invariant-loop-h l = record {
  grows : Grows l.fn.st l.st;
  sets : SetsGrow l.fn.ss l.ss;
  made : Matched (IsClassState l.st l.ss l.states l.tags l.tag l.switch_entry.switch) (take l.h-index l.h-items) l.tag_states;
}
