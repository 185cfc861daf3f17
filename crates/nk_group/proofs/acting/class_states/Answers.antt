use Rattle.nk_store.proofs.Stores.{grows_on}
use Rattle.nk_group.proofs.Growing.{sets_grow_on, known_kept}
use Rattle.nk_group.proofs.Stating.{ids_kept}
use Rattle.nk_group.proofs.Fronting.{classes_more}
use Rattle.nk_group.proofs.acting.class_states.Goals as goal

pub loop-h-preserved : goal.loop-h-preserved
loop-h-preserved c = record {
  grows = grows_on _ _ _ c.loop-h.invariant.grows c.acting_state.ensures.grows;
  sets = sets_grow_on c.args.ss.now c.loop-h.ss c.acting_state.new.ss c.loop-h.invariant.sets c.acting_state.ensures.sets;
  made =
      classes_more c.loop-h.st c.acting_state.new.st c.loop-h.ss c.acting_state.new.ss c.args.states.now c.args.tags.now c.args.tag c.args.switch_entry.now.switch c.as_slice-h-items.result.now c.loop-h.h-index
      c.h-item.result c.in_ok-diagram.diagram c.loop-h.tag_states c.push.new.self c.acting_state.ensures.grows c.acting_state.ensures.sets
      (ids_kept c.args.st.now c.loop-h.st c.args.states.now c.loop-h.invariant.grows c.requires.states)
      (known_kept c.args.ss.now c.loop-h.ss c.args.tags.now c.loop-h.invariant.sets c.requires.known) c.loop-h-test.true c.h-item.is c.in_ok-push.ensures.ok
      c.in_ok-diagram.ensures.state c.loop-h.invariant.made;
}
