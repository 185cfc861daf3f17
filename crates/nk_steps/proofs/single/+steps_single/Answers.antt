use Rattle.std.proofs.Common.{◌+◌, ◌≤◌, ◌∙◌, arith, sym, subst, ap, get_or}
use Rattle.std.specs.Prelude.{IfSome}
use Rattle.nk_store.proofs.Stores.{grows_on}
use Rattle.nk_store.specs.StoreState.{root_field}
use Rattle.nk_steps.specs.Single.{IsSingle, AreSingleBy}
use Rattle.nk_apply.proofs.MadeOf.{on_any}
use Rattle.nk_apply.proofs.Turned.{set_within}
use Rattle.nk_determ.proofs.Interned.{sets_on, sets_same}
use Rattle.nk_steps.proofs.SingleParts.{AreBuiltSingle, single_table_grow, single_table_put, single_built_more, single_more, node_single, parts_single}
use Rattle.nk_steps.proofs.single.+steps_single.Goals as goal

pub single_once-returns-in-Some-clause-ok : goal.single_once-returns-in-Some-clause-ok
single_once-returns-in-Some-clause-ok t c = (c.requires.seen c.args.d c.in-Some.made (sym c.known.ensures ∙ c.in-Some.is)).1

pub single_once-returns-in-Some-clause-sets : goal.single_once-returns-in-Some-clause-sets
single_once-returns-in-Some-clause-sets t c = sets_same c.args.ss.now

pub single_once-returns-clause-seen : goal.single_once-returns-clause-seen
single_once-returns-clause-seen t c =
    let one : IsSingle c.args.st.now c.args.d c.single_new.new.st c.single_new.new.ss c.in-Some-2.r = subst (λ o. IfSome o (λ r. IsSingle c.args.st.now c.args.d c.single_new.new.st c.single_new.new.ss r)) c.in-Some-2.is c.in_ok-r.ensures.ok in
    single_table_put c.args.st.now c.single_new.new.st c.single_new.new.ss c.args.d c.in-Some-2.r c.single_new.new.seen c.insert.new.self c.in_ok-r.ensures.seen c.single_new.ensures.grows c.requires.id one c.in_ok-insert.ensures.found

pub single_case-returns-clause-ok : goal.single_case-returns-clause-ok
single_case-returns-clause-ok t c =
    let parts : AreSingleBy c.args.st.now c.args.f c.args.d c.single_parts.new.st c.single_parts.new.ss c.in-Some.parts = subst (λ o. IfSome o (λ ps. AreSingleBy c.args.st.now c.args.f c.args.d c.single_parts.new.st c.single_parts.new.ss ps)) c.in-Some.is c.in_ok-parts.ensures.ok in
    let high : root_field c.args.st.now c.args.d ≤ root_field c.case.new.self c.in_ok-r.r = omega (arith, c.in_ok-r.ensures.later, c.requires.first) in
    node_single c.args.st.now c.single_parts.new.st c.case.new.self c.single_parts.new.ss c.args.f c.args.d c.in_ok-r.r c.in-Some.parts c.requires.split high parts c.in_ok-r.ensures.ok

pub single_case-returns-clause-seen : goal.single_case-returns-clause-seen
single_case-returns-clause-seen t c =
    single_table_grow c.single_parts.new.st c.case.new.self c.single_parts.new.ss c.single_parts.new.ss c.single_parts.new.seen c.case.ensures.grows (sets_same c.single_parts.new.ss) c.in_ok-parts.ensures.seen

pub single_new-returns-in-None-clause-seen : goal.single_new-returns-in-None-clause-seen
single_new-returns-in-None-clause-seen t c =
    on_any c.single_leaf.result _ (single_table_grow c.args.st.now c.single_leaf.new.st c.args.ss.now c.single_leaf.new.ss c.args.seen.now c.single_leaf.ensures.grows c.single_leaf.ensures.sets c.requires.seen)

pub single_parts-loop-parts-preserved : goal.single_parts-loop-parts-preserved
single_parts-loop-parts-preserved t c =
    let one : IsSingle c.loop-parts.st c.part_near-end.result.1 c.single_once.new.st c.single_once.new.ss c.in-Some.to = subst (λ o. IfSome o (λ r. IsSingle c.loop-parts.st c.part_near-end.result.1 c.single_once.new.st c.single_once.new.ss r)) c.in-Some.is c.in_ok-to.ensures.ok in
    let all = single_built_more c.args.st.now c.loop-parts.st c.single_once.new.st c.loop-parts.ss c.single_once.new.ss c.args.f c.args.d c.loop-parts.from c.part_near-end.result c.in-Some.to c.single_once.ensures.sets c.loop-parts.invariant.grows c.requires.id c.requires.split c.part_near-end.ensures one c.loop-parts.parts c.loop-parts.invariant.built c.single_once.ensures.grows in
    record {
      grows = grows_on _ _ _ c.loop-parts.invariant.grows c.single_once.ensures.grows;
      sets = sets_on _ _ _ c.loop-parts.invariant.sets c.single_once.ensures.sets;
      seen = c.in_ok-to.ensures.seen;
      within = set_within c.args.st.now c.loop-parts.st c.args.f c.args.d c.loop-parts.from c.max-max.result c.part_near-end.result c.part_near-end.ensures c.loop-parts.invariant.grows c.max-max.ensures c.if-end-max.false;
      built = subst (AreBuiltSingle c.args.st.now c.single_once.new.st c.single_once.new.ss c.args.f c.args.d (c.part_near-end.result.0 + 1)) (sym c.in_ok-push.ensures.ok) all;
      single = single_more c.args.st.now c.loop-parts.st c.single_once.new.st c.loop-parts.ss c.single_once.new.ss c.args.f c.args.d c.loop-parts.from c.part_near-end.result c.in-Some.to c.single_once.ensures.sets c.loop-parts.invariant.grows c.requires.id c.requires.split c.part_near-end.ensures one c.loop-parts.invariant.single;
    }

pub single_parts-returns-then-end-max-clause-ok : goal.single_parts-returns-then-end-max-clause-ok
single_parts-returns-then-end-max-clause-ok t c =
    let one : IsSingle c.loop-parts.st c.part_near-end.result.1 c.single_once.new.st c.single_once.new.ss c.in-Some.to = subst (λ o. IfSome o (λ r. IsSingle c.loop-parts.st c.part_near-end.result.1 c.single_once.new.st c.single_once.new.ss r)) c.in-Some.is c.in_ok-to.ensures.ok in
    let all = single_built_more c.args.st.now c.loop-parts.st c.single_once.new.st c.loop-parts.ss c.single_once.new.ss c.args.f c.args.d c.loop-parts.from c.part_near-end.result c.in-Some.to c.single_once.ensures.sets c.loop-parts.invariant.grows c.requires.id c.requires.split c.part_near-end.ensures one c.loop-parts.parts c.loop-parts.invariant.built c.single_once.ensures.grows in
    parts_single c.args.st.now c.single_once.new.st c.single_once.new.ss c.args.f c.args.d c.part_near-end.result.0 c.push.new.self c.requires.field c.requires.split (c.if-end-max.true ∙ c.max-max.ensures)
    (c.if-end-max.true ∙ c.max-max.ensures ∙ ap (λ ms. get_or ms c.args.f 0) (sym (grows_on _ _ _ c.loop-parts.invariant.grows c.single_once.ensures.grows).maxes))
    (subst (AreBuiltSingle c.args.st.now c.single_once.new.st c.single_once.new.ss c.args.f c.args.d (c.part_near-end.result.0 + 1)) (sym c.in_ok-push.ensures.ok) all)
    (single_more c.args.st.now c.loop-parts.st c.single_once.new.st c.loop-parts.ss c.single_once.new.ss c.args.f c.args.d c.loop-parts.from c.part_near-end.result c.in-Some.to c.single_once.ensures.sets c.loop-parts.invariant.grows c.requires.id c.requires.split c.part_near-end.ensures one c.loop-parts.invariant.single)
