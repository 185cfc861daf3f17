use Rattle.std.proofs.Common.{◌<◌, sym, subst, length, get_or}
use Rattle.std.proofs.lemmas.List.{get_or_default}
use Rattle.nk_store.proofs.Stores.{grows_on}
use Rattle.nk_group.specs.Made.{HasLabelsBelow}
use Rattle.nk_group.proofs.Growing.{sets_grow_on, known_kept}
use Rattle.nk_group.proofs.Stating.{ids_kept, have_places, states_more}
use Rattle.nk_group.proofs.tag_states.switch_states.Goals as goal

pub loop-tag-preserved : goal.loop-tag-preserved
loop-tag-preserved c =
    let kept = have_places c.args.ss.now c.loop-tag.ss c.args.tags.now (length c.args.states.now) c.args.switch_entry.now c.loop-tag.invariant.sets c.requires.known c.requires.places in
    record {
      grows = grows_on _ _ _ c.loop-tag.invariant.grows c.tag_state.ensures.grows;
      sets = sets_grow_on c.args.ss.now c.loop-tag.ss c.tag_state.new.ss c.loop-tag.invariant.sets c.tag_state.ensures.sets;
      made =
          states_more c.loop-tag.st c.tag_state.new.st c.loop-tag.ss c.tag_state.new.ss c.args.states.now c.args.tags.now c.args.switch_entry.now.switch c.as_slice-tag-items.result.now c.loop-tag.tag-index
          (get_or c.as_slice-tag-items.result.now c.loop-tag.tag-index 0) c.in_ok-diagram.diagram c.loop-tag.tag_states c.push.new.self
          c.tag_state.ensures.grows c.tag_state.ensures.sets (ids_kept c.args.st.now c.loop-tag.st c.args.states.now c.loop-tag.invariant.grows c.requires.states)
          (known_kept c.args.ss.now c.loop-tag.ss c.args.tags.now c.loop-tag.invariant.sets c.requires.known) c.loop-tag-test.true (get_or_default c.as_slice-tag-items.result.now c.loop-tag.tag-index 0 _ c.loop-tag-test.true) c.in_ok-push.ensures.ok
          (subst (λ l. HasLabelsBelow c.loop-tag.ss (length c.args.states.now) c.args.tags.now (get_or l c.loop-tag.tag-index 0)) (sym c.as_slice-tag-items.ensures)
          (kept c.loop-tag.tag-index 0 (subst (λ l. c.loop-tag.tag-index < length l) c.as_slice-tag-items.ensures c.loop-tag-test.true)))
          c.in_ok-diagram.ensures.state c.loop-tag.invariant.made;
    }
