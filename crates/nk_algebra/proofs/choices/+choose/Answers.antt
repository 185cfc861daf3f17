use Rattle.std.proofs.Common.{ℕ, ◌≡◌, ◌≤◌, ◌<◌, ◌+◌, ◌∙◌, ap, sym, subst, arith, get_or}
use Rattle.std.proofs.lemmas.Bool.Decides.{nat_tests}
use Rattle.std.proofs.lemmas.Result.{IfOk-weaker}
use Rattle.nk_store.specs.Nodes.{child_at}
use Rattle.nk_store.specs.StoreState.{IsId, look, AreParts}
use Rattle.nk_store.proofs.Looks.{each_weaker}
use Rattle.nk_store.proofs.Stores.{grows_on}
use Rattle.nk_algebra.specs.Choices.{first_of}
use Rattle.nk_apply.proofs.Built.{Built, built_parts, built_leaf}
use Rattle.nk_algebra.proofs.Chosen.{choices_grown}
use Rattle.nk_apply.proofs.MadeOf.{on_any}
use Rattle.nk_algebra.proofs.Cuts.{first_most, first_each, kept_later, kept_choices, first_grown, cut_choices, split_child, cut_leaf, cuts_push, cuts_past, cuts_all, chosen_stay, chosen_now, chosen_put}
use Rattle.nk_algebra.proofs.choices.+choose.Goals as goal

pub choose_before-returns-clause-ok : goal.choose_before-returns-clause-ok
choose_before-returns-clause-ok t c = IfOk-weaker c.case.result _ _
    (λ d h. cuts_all c.args.st.now c.choose_parts.new.st c.case.new.self c.args.f c.args.g d c.args.parts.now c.in_ok-pieces.pieces
    (λ w. split_child c.args.st.now c.args.f c.args.g c.args.parts.now w c.requires.choices (omega (arith, c.requires.before)) (first_each c.args.st.now c.args.f c.args.g c.args.parts.now c.requires.first) c.laws.ensures.nodes)
    c.in_ok-pieces.ensures.ok h) c.case.ensures.ok

pub choose_by-choose_here-requires-clause-first : goal.choose_by-choose_here-requires-clause-first
choose_by-choose_here-requires-clause-first t c =
    let most = first_most c.args.st.now c.args.f c.args.parts in
    let low : c.args.f ≤ c.earliest-g.result = grind (arith, nat_tests, c.lt.ensures, c.if-lt.false) in
    first_each c.args.st.now c.args.f c.args.f c.args.parts (omega (arith, most, low, c.earliest-g.ensures))

pub choose_by-returns-else-lt-clause-later : goal.choose_by-returns-else-lt-clause-later
choose_by-returns-else-lt-clause-later t c = IfOk-weaker c.choose_here.result _ _
    (λ d h. omega (arith, h, first_most c.args.st.now c.args.f c.args.parts)) c.choose_here.ensures.later

pub choose_by-returns-else-lt-clause-seen : goal.choose_by-returns-else-lt-clause-seen
choose_by-returns-else-lt-clause-seen t c =
    on_any c.choose_here.result _ (chosen_stay c.args.st.now c.choose_here.new.st c.args.f c.args.seen.now.entries c.choose_here.ensures.grows c.requires.seen)

pub choose_once-returns-in-Some-clause-ok : goal.choose_once-returns-in-Some-clause-ok
choose_once-returns-in-Some-clause-ok t c = (c.requires.seen c.args.parts c.in-Some.d (sym c.known_choice.ensures ∙ c.in-Some.is)).leaves

pub choose_once-returns-in-Some-clause-later : goal.choose_once-returns-in-Some-clause-later
choose_once-returns-in-Some-clause-later t c =
    let known = (c.requires.seen c.args.parts c.in-Some.d (sym c.known_choice.ensures ∙ c.in-Some.is)).later in
    omega (arith, known, c.requires.first)

pub choose_once-returns-clause-seen : goal.choose_once-returns-clause-seen
choose_once-returns-clause-seen t c =
    let later = c.in_ok-d.ensures.later in
    chosen_put c.choose_before.new.st c.args.f c.args.parts c.in_ok-d.d c.choose_before.new.seen.entries c.insert.new.self.entries c.in_ok-d.ensures.seen
    (chosen_now c.args.st.now c.choose_before.new.st c.args.f c.args.parts c.in_ok-d.d c.choose_before.ensures.grows c.requires.choices c.in_ok-d.ensures.ok (omega (arith, later, c.requires.first)))
    (λ q. c.in_ok-insert.ensures.updates.0 q)

pub choose_before-returns-clause-seen : goal.choose_before-returns-clause-seen
choose_before-returns-clause-seen t c =
    on_any c.case.result _ (chosen_stay c.choose_parts.new.st c.case.new.self c.args.f c.choose_parts.new.seen.entries c.case.ensures.grows c.in_ok-pieces.ensures.seen)

pub choose_parts-cut_at-requires-clause-ids : goal.choose_parts-cut_at-requires-clause-ids
choose_parts-cut_at-requires-clause-ids t c =
    each_weaker (IsId c.args.st.now) (IsId c.loop-pieces.st) c.args.parts.now c.loop-pieces.invariant.grows.ids c.requires.choices.ids

pub choose_parts-cut_at-requires-clause-first : goal.choose_parts-cut_at-requires-clause-first
choose_parts-cut_at-requires-clause-first t c =
    first_grown c.args.st.now c.loop-pieces.st c.args.g c.args.parts.now c.loop-pieces.invariant.grows c.requires.choices.ids
    (first_each c.args.st.now c.args.f c.args.g c.args.parts.now c.requires.first)

pub choose_parts-choose_by-requires : goal.choose_parts-choose_by-requires
choose_parts-choose_by-requires t c =
    let st = c.loop-pieces.st in
    let later : c.args.g < first_of st c.args.f c.in_ok-kept.kept = kept_later st c.args.f c.args.g c.in_ok-end.cut c.in_ok-kept.kept c.requires.before c.in_ok-kept.ensures c.in_ok-end.ensures.children in
    let now = cut_choices st c.args.f c.args.g c.loop-pieces.from c.args.parts.now (c.in_ok-end.end, c.in_ok-end.cut) (choices_grown c.args.st.now st c.args.f c.args.parts.now c.loop-pieces.invariant.grows c.requires.choices) c.in_ok-end.ensures in (
      omega (arith, later, c.requires.before, c.decreases),
      (kept_choices st c.args.f c.in_ok-end.cut c.in_ok-kept.kept now c.in_ok-kept.ensures, c.loop-pieces.invariant.seen),
    )

pub choose_parts-returns-then-end-max-clause-parts : goal.choose_parts-returns-then-end-max-clause-parts
choose_parts-returns-then-end-max-clause-parts t c =
    let splits = (λ (x : ℕ). split_child c.args.st.now c.args.f c.args.g c.args.parts.now x c.requires.choices (omega (arith, c.requires.before)) (first_each c.args.st.now c.args.f c.args.g c.args.parts.now c.requires.first) c.laws.ensures.nodes) in
    let all = cuts_push c.args.st.now c.loop-pieces.st c.choose_by.new.st c.args.f c.args.g c.loop-pieces.from c.args.parts.now c.loop-pieces.pieces c.in_ok-kept.kept (c.in_ok-end.end, c.in_ok-end.cut) c.in_ok-child.child
    c.loop-pieces.invariant.built c.loop-pieces.invariant.grows c.choose_by.ensures.grows c.requires.choices splits c.requires.before c.in_ok-end.ensures c.in_ok-kept.ensures c.in_ok-child.ensures.ok c.in_ok-child.ensures.later in
    subst (AreParts c.choose_by.new.st c.args.g) (sym c.in_ok-push.ensures.ok)
    (built_parts (cut_leaf c.args.st.now c.args.f c.args.g c.args.parts.now) c.choose_by.new.st c.args.g c.in_ok-end.end _ all (omega (arith, c.requires.before, c.requires.choices.field))
    (c.if-end-max.true ∙ c.max-max.ensures ∙ ap (λ ms. get_or ms c.args.g 0) (sym (grows_on _ _ _ c.loop-pieces.invariant.grows c.choose_by.ensures.grows).maxes)))

pub choose_parts-returns-then-end-max-clause-ok : goal.choose_parts-returns-then-end-max-clause-ok
choose_parts-returns-then-end-max-clause-ok t c = λ v pk w.
    let splits = (λ (x : ℕ). split_child c.args.st.now c.args.f c.args.g c.args.parts.now x c.requires.choices (omega (arith, c.requires.before)) (first_each c.args.st.now c.args.f c.args.g c.args.parts.now c.requires.first) c.laws.ensures.nodes) in
    let all = cuts_push c.args.st.now c.loop-pieces.st c.choose_by.new.st c.args.f c.args.g c.loop-pieces.from c.args.parts.now c.loop-pieces.pieces c.in_ok-kept.kept (c.in_ok-end.end, c.in_ok-end.cut) c.in_ok-child.child
    c.loop-pieces.invariant.built c.loop-pieces.invariant.grows c.choose_by.ensures.grows c.requires.choices splits c.requires.before c.in_ok-end.ensures c.in_ok-kept.ensures c.in_ok-child.ensures.ok c.in_ok-child.ensures.later in
    ap (λ ps. look c.choose_by.new.st (child_at 0 ps v) pk) c.in_ok-push.ensures.ok
    ∙ built_leaf (cut_leaf c.args.st.now c.args.f c.args.g c.args.parts.now) c.choose_by.new.st c.args.g c.in_ok-end.end _ all
    (cuts_past c.args.st.now c.args.f c.args.g c.in_ok-end.end c.args.parts.now splits (c.if-end-max.true ∙ c.max-max.ensures)) v pk w

pub choose_parts-loop-pieces-preserved : goal.choose_parts-loop-pieces-preserved
choose_parts-loop-pieces-preserved t c =
    let splits = (λ (x : ℕ). split_child c.args.st.now c.args.f c.args.g c.args.parts.now x c.requires.choices (omega (arith, c.requires.before)) (first_each c.args.st.now c.args.f c.args.g c.args.parts.now c.requires.first) c.laws.ensures.nodes) in
    let all = cuts_push c.args.st.now c.loop-pieces.st c.choose_by.new.st c.args.f c.args.g c.loop-pieces.from c.args.parts.now c.loop-pieces.pieces c.in_ok-kept.kept (c.in_ok-end.end, c.in_ok-end.cut) c.in_ok-child.child
    c.loop-pieces.invariant.built c.loop-pieces.invariant.grows c.choose_by.ensures.grows c.requires.choices splits c.requires.before c.in_ok-end.ensures c.in_ok-kept.ensures c.in_ok-child.ensures.ok c.in_ok-child.ensures.later in
    let same : get_or c.loop-pieces.st.maxes c.args.g 0 ≡ c.max-max.result = ap (λ ms. get_or ms c.args.g 0) c.loop-pieces.invariant.grows.maxes ∙ sym c.max-max.ensures in
    record {
      grows = grows_on _ _ _ c.loop-pieces.invariant.grows c.choose_by.ensures.grows;
      seen = c.in_ok-child.ensures.seen;
      within = omega (arith, c.in_ok-end.ensures.within, same, c.if-end-max.false);
      built = subst (Built (cut_leaf c.args.st.now c.args.f c.args.g c.args.parts.now) c.choose_by.new.st c.args.g (c.in_ok-end.end + 1)) (sym c.in_ok-push.ensures.ok) all;
    }

pub choose_before-returns-clause-grows : goal.choose_before-returns-clause-grows
choose_before-returns-clause-grows t c = grows_on _ _ _ c.choose_parts.ensures.grows c.case.ensures.grows

pub choose_parts-returns-in_err-child-clause-grows : goal.choose_parts-returns-in_err-child-clause-grows
choose_parts-returns-in_err-child-clause-grows t c = grows_on _ _ _ c.loop-pieces.invariant.grows c.choose_by.ensures.grows

pub choose_parts-returns-in_err-push-clause-grows : goal.choose_parts-returns-in_err-push-clause-grows
choose_parts-returns-in_err-push-clause-grows t c = grows_on _ _ _ c.loop-pieces.invariant.grows c.choose_by.ensures.grows

pub choose_parts-returns-then-end-max-clause-grows : goal.choose_parts-returns-then-end-max-clause-grows
choose_parts-returns-then-end-max-clause-grows t c = grows_on _ _ _ c.loop-pieces.invariant.grows c.choose_by.ensures.grows
