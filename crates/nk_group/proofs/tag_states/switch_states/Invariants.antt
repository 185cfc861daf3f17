use Rattle.std.proofs.Common.{take}
use Rattle.nk_store.specs.StoreState.{Grows}
use Rattle.nk_determ.specs.Sets.{SetsGrow}
use Rattle.nk_group.proofs.Stating.{AreSoFar}
use Rattle.nk_group.proofs.tag_states.switch_states.Given as goal

-- the tags so far have their diagrams
abbrev pub invariant-loop-tag : goal.invariant-loop-tag
invariant-loop-tag l = record {
  grows : Grows l.fn.st l.st;
  sets : SetsGrow l.fn.ss l.ss;
  made : AreSoFar l.st l.ss l.states l.tags l.switch_entry.switch (take l.tag-index l.tag-items) l.tag_states;
}
