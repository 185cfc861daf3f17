use Rattle.std.proofs.Common.{◌∙◌, sym, subst, ap, length, get_or}
use Rattle.std.specs.Prelude.{All, map}
use Rattle.std.proofs.lemmas.Result.{on_ok_weaker}
use Rattle.nk_group.specs.declared.switch_tags.SwitchTags.{SwitchTags}
use Rattle.nk_group.specs.Made.{AreSwitchTags}
use Rattle.nk_compile.specs.Comings.{HasComing}
use Rattle.nk_compile.proofs.Reached.{same_some}
use Rattle.nk_compile.proofs.StatesOfPositions.{state_ids}
use Rattle.nk_compile.proofs.TagTables.{tags_once, switch_tags_are, tables_are}
use Rattle.nk_compile.proofs.tagging.tag_tables.Goals as goal

pub switch_tables-requires-clause-states : goal.switch_tables-requires-clause-states
switch_tables-requires-clause-states g c = let r = c.requires.ready in state_ids c.args.st.now c.args.states.now r.2 r.6.automaton

pub switch_tables-requires-clause-known : goal.switch_tables-requires-clause-known
switch_tables-requires-clause-known g c = c.requires.ready.6.known

pub switch_tables-requires-clause-once : goal.switch_tables-requires-clause-once
switch_tables-requires-clause-once g c =
    let r = c.requires.ready in
    tags_once r.0 r.1 c.args.topo.now r.3 r.2 c.args.st.now c.args.ss.now c.args.states.now c.args.tags.now r.4 r.6

pub switch_tables-requires-clause-by_switch : goal.switch_tables-requires-clause-by_switch
switch_tables-requires-clause-by_switch g c = λ tag is k d lt.
    let r = c.requires.ready in
    let one = same_some r.3 tag (sym (r.6.over.tag ∙ r.4.tag_is) ∙ is) in
    let coming = subst (All (HasComing c.args.ends.now c.args.ss.now c.args.tags.now (length c.args.tags.now))) (sym c.as_slice.ensures.value) c.in_ok-by_switch.ensures.coming in
    subst (λ t. AreSwitchTags c.args.st.now c.args.ss.now c.args.states.now c.args.tags.now t (get_or c.as_slice.result.now k d)) one
    (switch_tags_are r.0 r.1 c.args.topo.now r.3 r.2 c.args.st.now c.args.ss.now c.args.states.now c.args.tags.now r.4 r.6 c.args.ends.now r.5.each
    (get_or c.as_slice.result.now k d) (coming k d lt))

pub returns : goal.returns
returns g c =
    on_ok_weaker c.switch_tables.result (λ made. (
      made.0,
      made.1,
      λ first fields p tag clear ends ready.
          tables_are first fields c.args.topo.now tag p c.args.st.now c.args.ss.now c.args.states.now c.args.tags.now clear ready c.args.ends.now ends.each
          c.as_slice.result.now made.0 (ap (map (λ (s : SwitchTags). s.switch)) c.as_slice.ensures.value ∙ c.in_ok-by_switch.ensures.switches)
          (subst (All (HasComing c.args.ends.now c.args.ss.now c.args.tags.now (length c.args.tags.now))) (sym c.as_slice.ensures.value) c.in_ok-by_switch.ensures.coming)
          (made.2 tag (ready.over.tag ∙ clear.tag_is)),
    )) c.switch_tables.ensures
