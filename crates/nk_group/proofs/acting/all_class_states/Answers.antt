use Rattle.std.proofs.Common.{refl, length}
use Rattle.nk_store.proofs.Stores.{grows_on}
use Rattle.nk_group.specs.Classed.{HaveClasses}
use Rattle.nk_group.proofs.Growing.{all_at, sets_grow_on, known_kept}
use Rattle.nk_group.proofs.Stating.{ids_kept}
use Rattle.nk_group.proofs.Fronting.{have_classes, class_switches_more}
use Rattle.nk_group.proofs.acting.all_class_states.Goals as goal

pub class_states-requires-clause-acting : goal.class_states-requires-clause-acting
class_states-requires-clause-acting c =
    have_classes c.args.st.now c.loop-switch_entry.st c.args.ss.now c.loop-switch_entry.ss c.args.tags.now (length c.args.states.now) c.switch_entry-item.result c.loop-switch_entry.invariant.grows c.loop-switch_entry.invariant.sets c.requires.known
    (all_at (HaveClasses c.args.st.now c.args.ss.now (length c.args.states.now) c.args.tags.now) c.args.by_switch.now c.args.by_switch.now c.loop-switch_entry.switch_entry-index c.switch_entry-item.result
    c.requires.acting refl c.loop-switch_entry-test.true c.switch_entry-item.is)

pub loop-switch_entry-preserved : goal.loop-switch_entry-preserved
loop-switch_entry-preserved c = record {
  grows = grows_on _ _ _ c.loop-switch_entry.invariant.grows c.class_states.ensures.grows;
  sets = sets_grow_on c.args.ss.now c.loop-switch_entry.ss c.class_states.new.ss c.loop-switch_entry.invariant.sets c.class_states.ensures.sets;
  made =
      class_switches_more c.loop-switch_entry.st c.class_states.new.st c.loop-switch_entry.ss c.class_states.new.ss c.args.states.now c.args.tags.now c.args.tag c.args.by_switch.now c.loop-switch_entry.switch_entry-index
      c.switch_entry-item.result c.in_ok-tag_states.tag_states c.loop-switch_entry.all c.push.new.self c.class_states.ensures.grows c.class_states.ensures.sets
      (ids_kept c.args.st.now c.loop-switch_entry.st c.args.states.now c.loop-switch_entry.invariant.grows c.requires.states)
      (known_kept c.args.ss.now c.loop-switch_entry.ss c.args.tags.now c.loop-switch_entry.invariant.sets c.requires.known) c.loop-switch_entry-test.true c.switch_entry-item.is c.in_ok-push.ensures.ok
      c.in_ok-tag_states.ensures.tag_states c.loop-switch_entry.invariant.made;
}
