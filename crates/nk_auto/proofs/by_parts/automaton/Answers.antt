use Rattle.std.proofs.Common.{◌≡◌, [], ◌∷◌, ◌++◌, ap, subst, ◌∙◌}
use Rattle.nk_policy.specs.Tree.{tree_of}
use Rattle.nk_store.proofs.Stores.{grows_on}
use Rattle.nk_auto.specs.OfParts.{AreOfParts}
use Rattle.nk_auto.proofs.OfParts.{part_grow, parts_automaton, all_ids}
use Rattle.nk_auto.proofs.by_parts.automaton.Goals as goal

pub returns-clause-ok : goal.returns-clause-ok
returns-clause-ok c = λ p first are draw.
    let st = c.push_states.new.st in
    let start = c.in_ok-start.start in
    let parts = c.args.parts.now in
    let pushed = c.in_ok-push_states.ensures.pushed in
    let same : c.push_states.new.states ≡ start ∷ pushed.0 = pushed.1 ∙ ap (λ states. states ++ pushed.0) (c.in_ok-push.ensures.ok ∙ ap (λ states. states ++ start ∷ []) c.new-states.ensures) in
    parts_automaton c.args.st.now st start pushed.0 c.push_states.new.states parts p first
    (grows_on _ _ _ c.state_of_part.ensures.grows c.push_states.ensures.grows) same
    (part_grow c.state_of_part.new.st st start (tree_of parts.first.free) parts.first.legs c.push_states.ensures.grows c.in_ok-start.ensures.ok)
    (subst (λ es. AreOfParts st pushed.0 es) c.as_slice.ensures pushed.2)
    are draw

pub returns-clause-ids : goal.returns-clause-ids
returns-clause-ids c =
    let st = c.push_states.new.st in
    let start = c.in_ok-start.start in
    let pushed = c.in_ok-push_states.ensures.pushed in
    let same : c.push_states.new.states ≡ start ∷ pushed.0 = pushed.1 ∙ ap (λ states. states ++ pushed.0) (c.in_ok-push.ensures.ok ∙ ap (λ states. states ++ start ∷ []) c.new-states.ensures) in
    all_ids st start pushed.0 c.push_states.new.states c.as_slice.result.now same (c.push_states.ensures.grows.ids start c.in_ok-start.ensures.ok.id) pushed.2
