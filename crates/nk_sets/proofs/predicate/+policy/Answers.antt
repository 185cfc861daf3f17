use Rattle.std.proofs.Common.{◌≡◌, ◌<◌, ◌∙◌, ◌+◌, ◌∷◌, ◌++◌, sym, ap, subst, arith, drop, cond, []}
use Rattle.std.specs.Prelude.{map}
use Rattle.std.specs.List.{flat_map}
use Rattle.std.proofs.lemmas.List.{drop_all}
use Rattle.std.proofs.lemmas.Result.{IfOk-weaker}
use Rattle.nk_policy.specs.Policy.{seq_of, part, no_part}
use Rattle.nk_policy.specs.Tree.{tree_of}
use Rattle.nk_store.specs.Nodes.{Rises, Each}
use Rattle.nk_store.proofs.Looks.{joined_some}
use Rattle.nk_store.proofs.Children.{rest_is, item_has, else_has}
use Rattle.nk_sets.specs.PacketSets.{IsSet}
use Rattle.nk_store.specs.Diagram.{case}
use Rattle.nk_sets.specs.Predicate.{guarded_predicate, terms_of, else_terms, sum_of_terms, predicate_of}
use Rattle.nk_sets.specs.Trees.{branches_of, set_tree}
use Rattle.nk_sets.specs.PolicyOf.{interval_at, intervals_at}
use Rattle.nk_sets.proofs.Cases.{case_sets}
use Rattle.nk_sets.proofs.SetTrees.{set_leaf}
use Rattle.nk_sets.proofs.Printing.{mapped_push, terms_none, terms_empty, terms_one, part_step, parts_end, choice_is, case_kind, none_is, some_is}
use Rattle.nk_sets.proofs.predicate.+policy.Goals as goal

pub choice_policy-push_part-requires : goal.choice_policy-push_part-requires
choice_policy-push_part-requires t c =
    let ps = c.args.parts.now in
    let p = c.loop-end-item.result in
    let sets : Each (IsSet c.args.st.now) ps = case_sets c.args.st.now c.args.s c.args.f ps c.requires.set c.requires.case c.laws-laws.ensures.still in
    let below : p.1 < c.args.s = item_has (λ k. k < c.args.s) ps c.loop-end.end-index p c.loop-end-test.true c.loop-end-item.is c.requires.case.below in
    let child : IsSet c.args.st.now p.1 = item_has (IsSet c.args.st.now) ps c.loop-end.end-index p c.loop-end-test.true c.loop-end-item.is sets in
    let other : IsSet c.args.st.now c.in_ok-other.other = subst (IsSet c.args.st.now) (sym c.in_ok-other.ensures) (else_has (IsSet c.args.st.now) ps (joined_some ps c.requires.case.joined) sets) in
    (omega (arith, below, c.decreases), (child, other))

pub choice_policy-loop-end-preserved : goal.choice_policy-loop-end-preserved
choice_policy-loop-end-preserved t c =
    let p = c.loop-end-item.result in
    let rest = drop (c.loop-end.end-index + 1) c.args.parts.now in
    let split : drop c.loop-end.end-index c.args.parts.now ≡ p ∷ rest = rest_is c.args.parts.now c.loop-end.end-index p c.loop-end-test.true c.loop-end-item.is in
    let rise : Rises c.max-high.result c.loop-end.from (p ∷ rest) = subst (Rises c.max-high.result c.loop-end.from) split c.loop-end.invariant.rise in
    record {
      rise = rise.2;
      made = part_step c.args.st.now (terms_of c.args.f (set_tree c.args.st.now c.in_ok-other.other)) (map tree_of c.loop-end.terms.items) (map tree_of c.push_part.new.terms.items) _ p rest (drop c.loop-end.end-index c.args.parts.now) c.loop-end.from split c.loop-end.invariant.made c.in_ok-push_part.ensures;
    }

pub choice_policy-push_else-requires : goal.choice_policy-push_else-requires
choice_policy-push_else-requires t c =
    let ps = c.args.parts.now in
    let some = joined_some ps c.requires.case.joined in
    let sets : Each (IsSet c.args.st.now) ps = case_sets c.args.st.now c.args.s c.args.f ps c.requires.set c.requires.case c.laws-laws.ensures.still in
    let below : c.in_ok-other.other < c.args.s = subst (λ k. k < c.args.s) (sym c.in_ok-other.ensures) (else_has (λ k. k < c.args.s) ps some c.requires.case.below) in
    let other : IsSet c.args.st.now c.in_ok-other.other = subst (IsSet c.args.st.now) (sym c.in_ok-other.ensures) (else_has (IsSet c.args.st.now) ps some sets) in
    (omega (arith, below, c.decreases), (c.requires.case.parts_ok.rise, (sets, other)))

pub choice_policy-returns : goal.choice_policy-returns
choice_policy-returns t c =
    let ps = c.args.parts.now in
    let st = c.args.st.now in
    let some = joined_some ps c.requires.case.joined in
    let sets : Each (IsSet st) ps = case_sets st c.args.s c.args.f ps c.requires.set c.requires.case c.laws-laws.ensures.still in
    let terms = parts_end st (terms_of c.args.f (set_tree st c.in_ok-other.other)) (map tree_of c.loop-end.terms.items) _ (drop c.loop-end.end-index ps) c.loop-end.from (drop_all c.loop-end.end-index ps c.loop-end-test.false) c.loop-end.invariant.made in
    c.sum.ensures
    ∙ ap sum_of_terms
    (c.in_ok-push_else.ensures
    ∙ ap (λ l. l ++ else_terms c.args.f (interval_at st 0 0 c.in_ok-other.other) (intervals_at st ps 0)) terms
    ∙ ap (λ o. flat_map (terms_of c.args.f (set_tree st o)) (intervals_at st ps 0) ++ else_terms c.args.f (interval_at st 0 0 o) (intervals_at st ps 0)) c.in_ok-other.ensures)
    ∙ choice_is st c.laws-laws.ensures.sound c.args.f ps some sets

pub policy-returns-in-Case : goal.policy-returns-in-Case
policy-returns-in-Case t c =
    IfOk-weaker c.choice_policy.result _ _
    (λ p h. h ∙ ap predicate_of
    (ap (λ ps. case c.in-Case.f (branches_of ps (set_tree c.args.st.now))) c.as_slice.ensures
    ∙ sym (case_kind c.args.st.now c.args.s c.in-Case.f c.in-Case.parts c.view.result.now c.requires.id c.view.ensures.node c.in-Case.is c.view.ensures.means)))
    c.choice_policy.ensures

pub guarded-returns : goal.guarded-returns
guarded-returns t c =
    IfOk-weaker c.pair.result _ _
    (λ p h. h
    ∙ ap (λ r. seq_of (part (tree_of c.args.condition) (part r no_part))) c.in_ok-rest.ensures
    ∙ ap (λ b. cond b (tree_of c.args.condition) (seq_of (part (tree_of c.args.condition) (part (predicate_of (set_tree c.args.st.now c.args.c)) no_part)))) (sym (sym c.is_all.ensures ∙ c.if-is_all.false)))
    c.pair.ensures

pub push_part-returns-then-eq : goal.push_part-returns-then-eq
push_part-returns-then-eq t c =
    terms_none c.args.st.now c.laws-laws.ensures.sound c.args.f c.args.other c.args.first c.args.last c.args.c (map tree_of c.args.terms.now.items) c.requires.other c.requires.child (sym c.eq.ensures ∙ c.if-eq.true)

pub push_part-returns-then-is_none : goal.push_part-returns-then-is_none
push_part-returns-then-is_none t c =
    terms_empty c.args.st.now c.laws-laws.ensures.sound c.args.f c.args.other c.args.first c.args.last c.args.c (map tree_of c.args.terms.now.items) c.requires.other c.requires.child (sym c.eq.ensures ∙ c.if-eq.false) (sym c.is_none.ensures ∙ c.if-is_none.true)

pub push_part-returns : goal.push_part-returns
push_part-returns t c =
    terms_one c.args.st.now c.laws-laws.ensures.sound c.args.f c.args.other c.args.first c.args.last c.args.c (map tree_of c.args.terms.now.items) (map tree_of c.push.new.self.items) c.requires.other c.requires.child (sym c.eq.ensures ∙ c.if-eq.false) (sym c.is_none.ensures ∙ c.if-is_none.false)
    (ap (λ l. map tree_of l) c.in_ok-push.ensures.items
    ∙ mapped_push tree_of c.args.terms.now.items _
    ∙ ap (λ x. map tree_of c.args.terms.now.items ++ x ∷ []) (c.in_ok-guarded.ensures ∙ ap (λ p. guarded_predicate p (set_tree c.args.st.now c.args.c) (predicate_of (set_tree c.args.st.now c.args.c))) c.within.ensures))

pub policy-returns-then-len-eq0 : goal.policy-returns-then-len-eq0
policy-returns-then-len-eq0 t c =
    c.nothing.ensures
    ∙ sym (ap predicate_of (set_leaf c.args.st.now c.args.s c.in-Leaf.outs c.requires.id (sym c.view.ensures.node ∙ c.in-Leaf.is)) ∙ none_is c.in-Leaf.outs (sym c.len.ensures ∙ c.if-len-eq0.true))

pub policy-returns-else-len-eq0 : goal.policy-returns-else-len-eq0
policy-returns-else-len-eq0 t c =
    c.everything.ensures
    ∙ sym (ap predicate_of (set_leaf c.args.st.now c.args.s c.in-Leaf.outs c.requires.id (sym c.view.ensures.node ∙ c.in-Leaf.is)) ∙ some_is c.in-Leaf.outs (λ e. c.if-len-eq0.false (c.len.ensures ∙ e)))
