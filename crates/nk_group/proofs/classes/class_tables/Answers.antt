use Rattle.std.proofs.Common.{◌≤◌, ◌∙◌, ◌++◌, ap, sym, subst, length}
use Rattle.std.specs.Prelude.{All}
use Rattle.nk_group.specs.Matched.{Matched}
use Rattle.nk_group.specs.Made.{ArePrintableStates, IsTableBy}
use Rattle.nk_group.specs.Tagged.{IsTagTable}
use Rattle.nk_group.specs.Classed.{AreClassStates}
use Rattle.nk_group.proofs.Tagging.{same_some}
use Rattle.nk_group.proofs.ClassTables.{switch_classes, tags_within, class_tables_are, all_class_printable}
use Rattle.nk_group.proofs.classes.class_tables.Goals as goal

pub all_class_states-requires-clause-acting : goal.all_class_states-requires-clause-acting
all_class_states-requires-clause-acting c = λ k d lt.
    switch_classes c.args.st.now c.args.ss.now c.args.states.now c.args.tags.now c.requires.frame.0 _ (c.requires.by_switch c.requires.frame.0 c.requires.frame.1 k d lt)

pub class_targets-requires : goal.class_targets-requires
class_targets-requires c = record {
  within =
      tags_within (length c.args.tags.now) c.all_class_states.new.ss c.args.tags.now c.args.classes.now c.in_ok-by_tag.by_tag c.as_slice.result.now
      c.in_ok-by_tag.ensures c.requires.classes c.as_slice.ensures;
}

pub all_tables-requires-clause-printable : goal.all_tables-requires-clause-printable
all_tables-requires-clause-printable c = λ tag is.
    let before = sym c.all_class_states.ensures.grows.tag ∙ is in
    let past = subst (λ f. 2 ≤ f) (same_some c.requires.frame.0 tag (sym c.requires.frame.1 ∙ before)) c.requires.frame.2.past_port in
    let same = same_some c.in-Some.tag tag (sym c.in-Some.is ∙ c.tag.ensures.is ∙ before) in
    subst (All (ArePrintableStates c.all_class_states.new.st tag)) (sym c.as_slice-3.ensures)
    (all_class_printable c.args.st.now c.all_class_states.new.st c.args.ss.now c.all_class_states.new.ss c.args.states.now c.args.tags.now c.args.classes.now tag c.all_class_states.ensures.grows
    c.all_class_states.ensures.sets c.requires.states c.requires.known c.differ.ensures.differ c.differ.ensures.ascend past c.laws.ensures.tidy c.args.by_switch.now c.in_ok-class_states.class_states
    (c.requires.by_switch tag before)
    (subst (λ f. Matched (AreClassStates c.all_class_states.new.st c.all_class_states.new.ss c.args.states.now c.args.tags.now f) c.args.by_switch.now c.in_ok-class_states.class_states) same
    c.in_ok-class_states.ensures.tag_states))

pub returns : goal.returns
returns c = λ tag is.
    let made = c.in_ok-all_tables.ensures.tables in
    let same = same_some c.in-Some.tag tag (sym c.in-Some.is ∙ c.tag.ensures.is ∙ is) in
    let kept = c.into_tables.ensures ∙ made.1 ∙ ap (λ l. l ++ made.0) c.new-tables.ensures.tables in
    class_tables_are c.args.st.now c.all_class_states.new.st c.args.ss.now c.all_class_states.new.ss c.args.states.now c.args.tags.now c.args.classes.now tag c.all_class_states.ensures.grows
    c.all_class_states.ensures.sets c.requires.states c.requires.known c.differ.ensures.differ c.differ.ensures.ascend c.as_slice.result.now
    (subst (IsTagTable (length c.args.tags.now) c.all_class_states.new.ss c.args.tags.now) (sym c.as_slice.ensures) c.in_ok-by_tag.ensures)
    c.args.by_switch.now c.as_slice-3.result.now c.into_tables.result (c.requires.by_switch tag is)
    (subst (λ f. Matched (AreClassStates c.all_class_states.new.st c.all_class_states.new.ss c.args.states.now c.args.tags.now f) c.args.by_switch.now c.as_slice-3.result.now) same
    (subst (Matched (AreClassStates c.all_class_states.new.st c.all_class_states.new.ss c.args.states.now c.args.tags.now c.in-Some.tag) c.args.by_switch.now) (sym c.as_slice-3.ensures) c.in_ok-class_states.ensures.tag_states))
    (subst (λ table. Matched (IsTableBy c.all_class_states.new.st table tag) c.as_slice-3.result.now c.into_tables.result) (c.as_slice-2.ensures ∙ c.in_ok-table.ensures)
    (subst (Matched (IsTableBy c.all_class_states.new.st c.as_slice-2.result.now tag) c.as_slice-3.result.now) (sym kept)
    (made.2 tag (c.all_class_states.ensures.grows.tag ∙ is))))
