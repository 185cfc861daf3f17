use Rattle.std.proofs.Common.{◌≤◌, ◌∙◌, sym, subst, length}
use Rattle.std.specs.Prelude.{All}
use Rattle.std.proofs.lemmas.Result.{on_ok_weaker}
use Rattle.nk_group.specs.Matched.{Matched}
use Rattle.nk_group.specs.Made.{ArePrintableStates, AreStatesAt}
use Rattle.nk_group.specs.Tagged.{IsTagTable}
use Rattle.nk_group.proofs.Tagging.{same_some, once_kept}
use Rattle.nk_group.proofs.Trees.{frame_grown}
use Rattle.nk_group.proofs.Finishing.{switch_places, tables_are, all_printable}
use Rattle.nk_group.proofs.switches.switch_tables.Goals as goal

pub all_states-requires-clause-places : goal.all_states-requires-clause-places
all_states-requires-clause-places g c = λ k d lt.
    switch_places c.args.st.now c.args.ss.now c.args.states.now c.args.tags.now c.requires.frame.0 _ (c.requires.by_switch c.requires.frame.0 c.requires.frame.1 k d lt)

pub tag_table-requires-clause-once : goal.tag_table-requires-clause-once
tag_table-requires-clause-once g c =
    once_kept c.args.ss.now c.all_states.new.ss c.args.tags.now c.all_states.ensures.sets c.requires.known c.requires.once

pub all_tables-requires-clause-frame : goal.all_tables-requires-clause-frame
all_tables-requires-clause-frame g c =
    let tag = c.requires.frame.0 in
    (tag, c.all_states.ensures.grows.tag ∙ c.requires.frame.1, frame_grown c.args.st.now c.all_states.new.st tag c.all_states.ensures.grows c.requires.frame.2)

pub all_tables-requires-clause-printable : goal.all_tables-requires-clause-printable
all_tables-requires-clause-printable g c = λ tag is.
    let before = sym c.all_states.ensures.grows.tag ∙ is in
    let past = subst (λ f. 2 ≤ f) (same_some c.requires.frame.0 tag (sym c.requires.frame.1 ∙ before)) c.requires.frame.2.past_port in
    subst (All (ArePrintableStates c.all_states.new.st tag)) (sym c.as_slice-2.ensures)
    (all_printable c.args.st.now c.all_states.new.st c.args.ss.now c.all_states.new.ss c.args.states.now c.args.tags.now tag c.all_states.ensures.grows c.all_states.ensures.sets c.requires.states c.requires.known
    c.differ.ensures.differ c.differ.ensures.ascend past c.laws.ensures.tidy c.args.by_switch.now c.in_ok-tag_states.tag_states (c.requires.by_switch tag before) c.in_ok-tag_states.ensures.tag_states)

pub returns : goal.returns
returns g c = on_ok_weaker c.all_tables.result (λ made. (
  made.0,
  made.1,
  λ tag is.
      tables_are c.args.st.now c.all_states.new.st c.args.ss.now c.all_states.new.ss c.args.states.now c.args.tags.now tag c.all_states.ensures.grows c.all_states.ensures.sets c.requires.states c.requires.known
      c.differ.ensures.differ c.differ.ensures.ascend c.as_slice.result.now
      (subst (IsTagTable (length c.args.tags.now) c.all_states.new.ss c.args.tags.now) (sym c.as_slice.ensures) c.in_ok-table.ensures)
      c.args.by_switch.now c.as_slice-2.result.now made.0 (c.requires.by_switch tag is)
      (subst (Matched (AreStatesAt c.all_states.new.st c.all_states.new.ss c.args.states.now c.args.tags.now) c.args.by_switch.now) (sym c.as_slice-2.ensures) c.in_ok-tag_states.ensures.tag_states)
      (made.2 tag (c.all_states.ensures.grows.tag ∙ is)),
)) c.all_tables.ensures.tables
