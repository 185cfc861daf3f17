use Rattle.std.proofs.Common.{◌≡◌, ◌∙◌, ◌+◌, ◌∷◌, ap, subst, drop}
use Rattle.std.specs.Prelude.{map, slice_index}
use Rattle.std.proofs.lemmas.List.{drop_all}
use Rattle.nk_policy.specs.Policy.{not_of}
use Rattle.nk_policy.specs.Tree.{tree_of}
use Rattle.nk_store.specs.Nodes.{Rises}
use Rattle.nk_store.proofs.Children.{rest_is, item_has}
use Rattle.nk_sets.specs.PacketSets.{IsSet}
use Rattle.nk_sets.specs.Predicate.{sum_of_terms, conditions_of}
use Rattle.nk_sets.specs.Trees.{set_tree}
use Rattle.nk_sets.proofs.Printing.{part_step, parts_end}
use Rattle.nk_sets.proofs.predicate.else_test.Goals as goal

pub push_condition-requires-clause-child : goal.push_condition-requires-clause-child
push_condition-requires-clause-child c =
    item_has (IsSet c.args.st.now) c.args.parts.now c.loop-end.end-index c.loop-end-item.result c.loop-end-test.true c.loop-end-item.is c.requires.children

pub loop-end-preserved : goal.loop-end-preserved
loop-end-preserved c =
    let p = c.loop-end-item.result in
    let rest = drop (c.loop-end.end-index + 1) c.args.parts.now in
    let split : drop c.loop-end.end-index c.args.parts.now ≡ p ∷ rest = rest_is c.args.parts.now c.loop-end.end-index p c.loop-end-test.true c.loop-end-item.is in
    let rise : Rises (slice_index c.args.st.now.maxes c.args.f) c.loop-end.from (p ∷ rest) = subst (Rises (slice_index c.args.st.now.maxes c.args.f) c.loop-end.from) split c.loop-end.invariant.rise in
    record {
      rise = rise.2;
      made = part_step c.args.st.now (conditions_of c.args.f (set_tree c.args.st.now c.args.other)) (map tree_of c.loop-end.conditions.items) (map tree_of c.push_condition.new.conditions.items) _ p rest (drop c.loop-end.end-index c.args.parts.now) c.loop-end.from split c.loop-end.invariant.made c.in_ok-push_condition.ensures;
    }

pub returns : goal.returns
returns c =
    ap (λ p. not_of (tree_of p)) c.in_ok-new.ensures.ok
    ∙ ap not_of c.sum.ensures
    ∙ ap (λ l. not_of (sum_of_terms l))
    (parts_end c.args.st.now (conditions_of c.args.f (set_tree c.args.st.now c.args.other)) (map tree_of c.loop-end.conditions.items) _ (drop c.loop-end.end-index c.args.parts.now) c.loop-end.from (drop_all c.loop-end.end-index c.args.parts.now c.loop-end-test.false) c.loop-end.invariant.made)
