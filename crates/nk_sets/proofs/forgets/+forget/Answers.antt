use Rattle.std.proofs.Common.{◌<◌, ◌∙◌, sym, subst, arith}
use Rattle.std.proofs.lemmas.List.{drop_all}
use Rattle.std.proofs.lemmas.Result.{IfOk-weaker}
use Rattle.nk_store.proofs.Stores.{grows_on}
use Rattle.nk_sets.specs.PacketSets.{IsSet}
use Rattle.nk_sets.proofs.Cases.{at_none, other_than, case_sets}
use Rattle.nk_store.proofs.Children.{item_has}
use Rattle.nk_sets.proofs.SetLemmas.{on_any, both_ok, set_grows}
use Rattle.nk_sets.proofs.Forgetting.{entries_grow, entries_put, stays, Made, made_more, made_parts, parts_forgotten}
use Rattle.nk_sets.proofs.forgets.+forget.Goals as goal

pub forget_new-returns-in-None-clause-ok : goal.forget_new-returns-in-None-clause-ok
forget_new-returns-in-None-clause-ok t c =
    let leaf = at_none c.in_ok-g.field-0 _ _ c.in-None.is c.in_ok-g.ensures.parts in
    stays c.args.st.now c.args.f c.args.s c.requires.set c.in_ok-g.ensures.still (omega (arith, leaf, c.requires.field))

pub forget_case-returns-else-eq-clause-ok : goal.forget_case-returns-else-eq-clause-ok
forget_case-returns-else-eq-clause-ok t c =
    let top = c.requires.case.root_field_is in
    let other = other_than c.args.g c.args.f (sym c.eq.ensures ∙ c.if-eq.false) in
    let not_before = c.if-place.false in
    let left = c.place.ensures.is in
    let right = c.place-2.ensures.is in
    stays c.args.st.now c.args.f c.args.s c.requires.set (c.laws-laws.ensures.still c.args.s c.requires.set.id) (omega (arith, top, other, not_before, left, right))

pub forget_once-returns-in-Some-known-clause-ok : goal.forget_once-returns-in-Some-known-clause-ok
forget_once-returns-in-Some-known-clause-ok t c = c.requires.seen c.args.s c.in-Some-known.r (sym c.known.ensures ∙ c.in-Some-known.is)

pub forget_case-returns-then-eq-clause-seen : goal.forget_case-returns-then-eq-clause-seen
forget_case-returns-then-eq-clause-seen t c =
    on_any c.forget_here.result _ (entries_grow c.args.st.now c.forget_here.new.st c.args.f c.args.seen.now c.forget_here.ensures.grows c.requires.seen)

pub forget_once-returns-clause-seen : goal.forget_once-returns-clause-seen
forget_once-returns-clause-seen t c =
    entries_put c.forget_new.new.st c.args.f c.args.s c.in_ok-r.r c.forget_new.new.seen c.insert.new.self c.in_ok-r.ensures.seen c.in_ok-r.ensures.ok c.in_ok-insert.ensures.found

pub forget_parts-forget_once-requires : goal.forget_parts-forget_once-requires
forget_parts-forget_once-requires t c =
    let p = c.loop-end-item.result in
    let below : p.1 < c.args.s = item_has (λ k. k < c.args.s) c.args.parts.now c.loop-end.end-index p c.loop-end-test.true c.loop-end-item.is c.requires.case.below in
    let is : IsSet c.args.st.now p.1 = item_has (IsSet c.args.st.now) c.args.parts.now c.loop-end.end-index p c.loop-end-test.true c.loop-end-item.is (case_sets c.args.st.now c.args.s c.args.g c.args.parts.now c.requires.set c.requires.case c.laws-laws.ensures.still) in
    (omega (arith, below, c.decreases), (set_grows c.args.st.now c.loop-end.st p.1 c.loop-end.invariant.grows is, (c.requires.field, c.loop-end.invariant.seen)))

pub forget_parts-loop-end-preserved : goal.forget_parts-loop-end-preserved
forget_parts-loop-end-preserved t c = record {
  grows = grows_on _ _ _ c.loop-end.invariant.grows c.forget_once.ensures.grows;
  seen = c.in_ok-r.ensures.seen;
  made = made_more c.loop-end.st c.forget_once.new.st c.args.f c.loop-end.end-index c.args.parts.now c.loop-end.made c.push.new.self c.loop-end-item.result c.in_ok-r.r c.forget_once.ensures.grows c.loop-end.invariant.made c.loop-end-test.true c.loop-end-item.is c.in_ok-r.ensures.ok c.in_ok-push.ensures.ok;
}

pub forget_parts-case-requires : goal.forget_parts-case-requires
forget_parts-case-requires t c =
    made_parts c.args.st.now c.loop-end.st c.args.f c.args.s c.args.g c.args.parts.now c.loop-end.made c.loop-end.invariant.grows c.requires.case
    (subst (Made c.loop-end.st c.args.f c.args.parts.now c.loop-end.made) (drop_all c.loop-end.end-index c.args.parts.now c.loop-end-test.false) c.loop-end.invariant.made)

pub forget_parts-returns-clause-ok : goal.forget_parts-returns-clause-ok
forget_parts-returns-clause-ok t c =
    IfOk-weaker c.case.result _ _
    (λ d h. parts_forgotten c.args.st.now c.loop-end.st c.case.new.self c.args.s c.args.g c.args.f d c.args.parts.now c.loop-end.made c.loop-end.invariant.grows c.case.ensures.grows c.requires.set c.requires.case c.requires.before
    (subst (Made c.loop-end.st c.args.f c.args.parts.now c.loop-end.made) (drop_all c.loop-end.end-index c.args.parts.now c.loop-end-test.false) c.loop-end.invariant.made)
    h.0 h.1)
    (both_ok c.case.result _ _ c.case.ensures.ok c.case.ensures.later)

pub forget_parts-returns-clause-seen : goal.forget_parts-returns-clause-seen
forget_parts-returns-clause-seen t c =
    on_any c.case.result _ (entries_grow c.loop-end.st c.case.new.self c.args.f c.loop-end.seen c.case.ensures.grows c.loop-end.invariant.seen)

pub forget_once-returns-then-is_past-clause-ok : goal.forget_once-returns-then-is_past-clause-ok
forget_once-returns-then-is_past-clause-ok t c =
    stays c.args.st.now c.args.f c.args.s c.requires.set c.is_past.ensures.still (c.is_past.ensures.past c.if-is_past.true)

pub forget_once-returns-in-Some-clause-seen : goal.forget_once-returns-in-Some-clause-seen
forget_once-returns-in-Some-clause-seen t c =
    on_any c.forget_children.result _ (entries_grow c.args.st.now c.forget_children.new.st c.args.f c.args.seen.now c.forget_children.ensures.grows c.requires.seen)
