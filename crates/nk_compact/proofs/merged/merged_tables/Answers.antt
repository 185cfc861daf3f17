use Rattle.std.proofs.Common.{◌≡◌, List, ℕ, ◌<◌, ◌≤◌, ◌∙◌, None, sym, subst, ap, length, get_or}
use Rattle.std.specs.Prelude.{All, map}
use Rattle.std.proofs.lemmas.Result.{IfOk-weaker}
use Rattle.nk_policy.specs.Tree.{tree_of}
use Rattle.nk_group.specs.declared.switch_tags.SwitchTags.{SwitchTags}
use Rattle.nk_group.specs.Classed.{AreSwitchClasses, IsClassTableAt}
use Rattle.nk_group.specs.Matched.{Matched}
use Rattle.nk_compile.specs.Comings.{HasComing}
use Rattle.nk_compile.proofs.Reached.{same_some}
use Rattle.nk_compile.proofs.StatesOfPositions.{state_ids}
use Rattle.nk_compile.proofs.TagTables.{tags_once}
use Rattle.nk_compact.specs.ClassesAtSwitches.{switch_classes_of}
use Rattle.nk_compact.proofs.ClassRows.{classes_at_switches_are, tags_have_classes, firsts_within, merged_are}
use Rattle.nk_compact.proofs.merged.merged_tables.Goals as goal

-- which tags come to the switches
all_coming : (c : goal.After-as_slice-2) → All (HasComing c.as_slice.result.now c.args.ss.now c.args.tags.now (length c.args.tags.now)) c.as_slice-2.result.now
all_coming c = subst (All (HasComing c.as_slice.result.now c.args.ss.now c.args.tags.now (length c.args.tags.now))) (sym c.as_slice-2.ensures.value) c.in_ok-by_switch.ensures.coming

pub classes_at_switches-requires-clause-tags : goal.classes_at_switches-requires-clause-tags
classes_at_switches-requires-clause-tags c =
    let r = c.requires.mergeable in
    subst (λ (l : List ℕ). All (λ (s : SwitchTags). All (λ t. t ≤ length l) s.tags) c.as_slice-2.result.now) (sym c.as_slice-numbers.ensures)
    (tags_have_classes r.0 c.args.topo.now r.1 (tree_of c.args.p.now) c.args.st.now c.args.ss.now c.args.states.now c.args.tags.now c.args.classes.now.numbers c.args.classes.now.firsts c.args.met.now r.2
    c.as_slice.result.now (λ l lt. ap (λ e. get_or e l None) c.as_slice.ensures ∙ c.in_ok-ends.ensures.each l lt) c.as_slice-2.result.now (all_coming c))

pub classes_at_switches-requires-clause-firsts : goal.classes_at_switches-requires-clause-firsts
classes_at_switches-requires-clause-firsts c =
    let r = c.requires.mergeable in
    subst (λ (l : List ℕ). All (λ i. i < length c.as_slice-numbers.result.now) l) (sym c.as_slice-firsts.ensures)
    (subst (λ (l : List ℕ). All (λ i. i < length l) c.args.classes.now.firsts) (sym c.as_slice-numbers.ensures)
    (firsts_within r.0 c.args.topo.now r.1 (tree_of c.args.p.now) c.args.st.now c.args.ss.now c.args.states.now c.args.tags.now c.args.classes.now.numbers c.args.classes.now.firsts c.args.met.now r.2
    c.as_slice.result.now (λ l lt. ap (λ e. get_or e l None) c.as_slice.ensures ∙ c.in_ok-ends.ensures.each l lt)))

pub class_tables-requires-clause-states : goal.class_tables-requires-clause-states
class_tables-requires-clause-states c = state_ids c.args.st.now c.args.states.now (tree_of c.args.p.now) c.requires.mergeable.2.ready.automaton

pub class_tables-requires-clause-once : goal.class_tables-requires-clause-once
class_tables-requires-clause-once c =
    let r = c.requires.mergeable in
    tags_once 0 r.0 c.args.topo.now r.1 (tree_of c.args.p.now) c.args.st.now c.args.ss.now c.args.states.now c.args.tags.now r.2.clear r.2.ready

-- the classes of the switches
here_is : (c : goal.After-as_slice-3) → c.as_slice-3.result.now ≡ map (switch_classes_of c.args.classes.now.numbers c.args.met.now c.args.classes.now.firsts) c.as_slice-2.result.now
here_is c =
    c.as_slice-3.ensures ∙ c.in_ok-here.ensures
    ∙ ap (λ l. map (switch_classes_of l c.args.met.now c.as_slice-firsts.result.now) c.as_slice-2.result.now) c.as_slice-numbers.ensures
    ∙ ap (λ l. map (switch_classes_of c.args.classes.now.numbers c.args.met.now l) c.as_slice-2.result.now) c.as_slice-firsts.ensures

pub class_tables-requires-clause-by_switch : goal.class_tables-requires-clause-by_switch
class_tables-requires-clause-by_switch c = λ tag is.
    let r = c.requires.mergeable in
    let one = same_some r.1 tag (sym (r.2.ready.over.tag ∙ r.2.clear.tag_is) ∙ is) in
    subst (λ t. All (AreSwitchClasses c.args.st.now c.args.ss.now c.args.states.now c.args.tags.now t) c.as_slice-3.result.now) one
    (classes_at_switches_are r.0 c.args.topo.now r.1 (tree_of c.args.p.now) c.args.st.now c.args.ss.now c.args.states.now c.args.tags.now c.args.classes.now.numbers c.args.classes.now.firsts c.args.met.now r.2
    c.as_slice.result.now (λ l lt. ap (λ e. get_or e l None) c.as_slice.ensures ∙ c.in_ok-ends.ensures.each l lt) c.as_slice-2.result.now c.as_slice-3.result.now (subst (All (HasComing c.as_slice.result.now c.args.ss.now c.args.tags.now (length c.args.tags.now))) (sym c.as_slice-2.ensures.value) c.in_ok-by_switch.ensures.coming) (here_is c))

pub returns : goal.returns
returns c =
    IfOk-weaker c.class_tables.result _ _ (λ ts k fields tag m.
    merged_are fields c.args.topo.now tag (tree_of c.args.p.now) c.args.st.now c.args.ss.now c.args.states.now c.args.tags.now c.args.classes.now.numbers c.args.classes.now.firsts c.args.met.now m
    c.as_slice.result.now (λ l lt. ap (λ e. get_or e l None) c.as_slice.ensures ∙ c.in_ok-ends.ensures.each l lt)
    c.as_slice-2.result.now ts (ap (map (λ (s : SwitchTags). s.switch)) c.as_slice-2.ensures.value ∙ c.in_ok-by_switch.ensures.switches)
    (subst (All (HasComing c.as_slice.result.now c.args.ss.now c.args.tags.now (length c.args.tags.now))) (sym c.as_slice-2.ensures.value) c.in_ok-by_switch.ensures.coming)
    (subst (λ l. Matched (IsClassTableAt c.args.st.now c.args.ss.now c.args.states.now c.args.tags.now l tag) (map (switch_classes_of c.args.classes.now.numbers c.args.met.now c.args.classes.now.firsts) c.as_slice-2.result.now) ts) c.as_slice-numbers.ensures
    (subst (λ s. Matched (IsClassTableAt c.args.st.now c.args.ss.now c.args.states.now c.args.tags.now c.as_slice-numbers.result.now tag) s ts)
    (c.as_slice-3.ensures ∙ c.in_ok-here.ensures
    ∙ ap (λ l. map (switch_classes_of l c.args.met.now c.as_slice-firsts.result.now) c.as_slice-2.result.now) c.as_slice-numbers.ensures
    ∙ ap (λ l. map (switch_classes_of c.args.classes.now.numbers c.args.met.now l) c.as_slice-2.result.now) c.as_slice-firsts.ensures)
    (k tag (m.ready.over.tag ∙ m.clear.tag_is))))) c.class_tables.ensures
