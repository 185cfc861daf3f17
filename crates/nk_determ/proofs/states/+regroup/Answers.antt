use Rattle.std.proofs.Common.{◌+◌, ◌∙◌, sym, subst, ap, get_or}
use Rattle.std.proofs.lemmas.Result.{IfOk-weaker}
use Rattle.nk_store.proofs.Stores.{grows_on}
use Rattle.nk_store.specs.Nodes.{child_at}
use Rattle.nk_store.specs.StoreState.{look, AreParts}
use Rattle.nk_apply.proofs.Built.{built_parts, built_leaf}
use Rattle.nk_apply.proofs.MadeOf.{on_any}
use Rattle.nk_apply.proofs.Turned.{turned, turned_past, set_within}
use Rattle.nk_determ.specs.States.{regrouped}
use Rattle.nk_determ.proofs.Interned.{sets_on, sets_same}
use Rattle.nk_determ.proofs.Regroupings.{AreBuilt, table_grow, table_put, built_more, held_more, held_whole, node_regrouped}
use Rattle.nk_determ.proofs.states.+regroup.Goals as goal

pub regroup_once-returns-in-Some-clause-ok : goal.regroup_once-returns-in-Some-clause-ok
regroup_once-returns-in-Some-clause-ok t c = (c.requires.seen c.args.d c.in-Some.r (sym c.known.ensures ∙ c.in-Some.is)).1

pub regroup_once-returns-in-Some-clause-later : goal.regroup_once-returns-in-Some-clause-later
regroup_once-returns-in-Some-clause-later t c = (c.requires.seen c.args.d c.in-Some.r (sym c.known.ensures ∙ c.in-Some.is)).2

pub regroup_once-returns-in-Some-clause-sets : goal.regroup_once-returns-in-Some-clause-sets
regroup_once-returns-in-Some-clause-sets t c = sets_same c.args.ss.now

pub regroup_once-returns-clause-seen : goal.regroup_once-returns-clause-seen
regroup_once-returns-clause-seen t c =
    table_put c.args.st.now c.regroup_new.new.st c.regroup_new.new.ss c.args.d c.in_ok-r.r c.regroup_new.new.seen c.insert.new.self
    c.in_ok-r.ensures.seen c.regroup_new.ensures.grows c.requires.id c.in_ok-r.ensures.ok c.in_ok-r.ensures.later c.in_ok-insert.ensures.found

pub regroup_new-returns-in-None-clause-seen : goal.regroup_new-returns-in-None-clause-seen
regroup_new-returns-in-None-clause-seen t c =
    on_any c.regroup_leaf.result _ (table_grow c.args.st.now c.regroup_leaf.new.st c.args.ss.now c.regroup_leaf.new.ss c.args.seen.now c.regroup_leaf.ensures.grows c.regroup_leaf.ensures.sets c.requires.seen)

pub regroup_new-returns-in_ok-parts-in-Some-clause-ok : goal.regroup_new-returns-in_ok-parts-in-Some-clause-ok
regroup_new-returns-in_ok-parts-in-Some-clause-ok t c =
    IfOk-weaker c.case.result _ _
    (λ r h. node_regrouped c.args.st.now c.regroup_parts.new.st c.case.new.self c.regroup_parts.new.ss c.in-Some.f c.args.d r c.in_ok-parts-in-Some.parts c.in-Some.ensures.2 c.in_ok-parts-in-Some.ensures.ok c.in_ok-parts-in-Some.ensures.held h) c.case.ensures.ok

pub regroup_new-returns-in_ok-parts-in-Some-clause-seen : goal.regroup_new-returns-in_ok-parts-in-Some-clause-seen
regroup_new-returns-in_ok-parts-in-Some-clause-seen t c =
    on_any c.case.result _ (table_grow c.regroup_parts.new.st c.case.new.self c.regroup_parts.new.ss c.regroup_parts.new.ss c.regroup_parts.new.seen c.case.ensures.grows (sets_same c.regroup_parts.new.ss) c.in_ok-parts-in-Some.ensures.seen)

pub regroup_parts-returns-then-end-max-clause-parts : goal.regroup_parts-returns-then-end-max-clause-parts
regroup_parts-returns-then-end-max-clause-parts t c =
    let all = built_more c.args.st.now c.loop-parts.st c.regroup_once.new.st c.loop-parts.ss c.regroup_once.new.ss c.args.f c.args.d c.loop-parts.from c.part_near-end.result c.in_ok-to.to c.regroup_once.ensures.sets c.loop-parts.invariant.grows c.requires.id c.requires.split c.part_near-end.ensures c.in_ok-to.ensures.ok c.loop-parts.parts c.loop-parts.invariant.built c.regroup_once.ensures.grows c.in_ok-to.ensures.later in
    subst (AreParts c.regroup_once.new.st c.args.f) (sym c.in_ok-push.ensures.ok)
    (built_parts (turned (λ pk. pk) (λ pk os. regrouped c.regroup_once.new.ss os) c.args.st.now c.args.f c.args.d) c.regroup_once.new.st c.args.f c.part_near-end.result.0 _ (all c.regroup_once.new.ss (sets_same c.regroup_once.new.ss)) c.requires.field
    (c.if-end-max.true ∙ c.max-max.ensures ∙ ap (λ ms. get_or ms c.args.f 0) (sym (grows_on _ _ _ c.loop-parts.invariant.grows c.regroup_once.ensures.grows).maxes)))

pub regroup_parts-returns-then-end-max-clause-ok : goal.regroup_parts-returns-then-end-max-clause-ok
regroup_parts-returns-then-end-max-clause-ok t c = λ later h v pk w.
    let all = built_more c.args.st.now c.loop-parts.st c.regroup_once.new.st c.loop-parts.ss c.regroup_once.new.ss c.args.f c.args.d c.loop-parts.from c.part_near-end.result c.in_ok-to.to c.regroup_once.ensures.sets c.loop-parts.invariant.grows c.requires.id c.requires.split c.part_near-end.ensures c.in_ok-to.ensures.ok c.loop-parts.parts c.loop-parts.invariant.built c.regroup_once.ensures.grows c.in_ok-to.ensures.later in
    ap (λ ps. look c.regroup_once.new.st (child_at 0 ps v) pk) c.in_ok-push.ensures.ok
    ∙ built_leaf (turned (λ pk. pk) (λ pk os. regrouped later os) c.args.st.now c.args.f c.args.d) c.regroup_once.new.st c.args.f c.part_near-end.result.0 _ (all later h)
    (turned_past (λ pk. pk) (λ pk os. regrouped later os) c.args.st.now c.args.f c.args.d c.part_near-end.result.0 c.requires.split (c.if-end-max.true ∙ c.max-max.ensures)) v pk w

pub regroup_parts-returns-then-end-max-clause-held : goal.regroup_parts-returns-then-end-max-clause-held
regroup_parts-returns-then-end-max-clause-held t c =
    held_whole c.args.st.now c.regroup_once.new.ss c.args.f c.args.d c.part_near-end.result.0 c.requires.split (c.if-end-max.true ∙ c.max-max.ensures)
    (held_more c.args.st.now c.loop-parts.st c.regroup_once.new.st c.loop-parts.ss c.regroup_once.new.ss c.args.f c.args.d c.loop-parts.from c.part_near-end.result c.in_ok-to.to c.regroup_once.ensures.sets c.loop-parts.invariant.grows c.requires.id c.requires.split c.part_near-end.ensures c.in_ok-to.ensures.ok c.loop-parts.invariant.held)

pub regroup_parts-loop-parts-preserved : goal.regroup_parts-loop-parts-preserved
regroup_parts-loop-parts-preserved t c =
    let all = built_more c.args.st.now c.loop-parts.st c.regroup_once.new.st c.loop-parts.ss c.regroup_once.new.ss c.args.f c.args.d c.loop-parts.from c.part_near-end.result c.in_ok-to.to c.regroup_once.ensures.sets c.loop-parts.invariant.grows c.requires.id c.requires.split c.part_near-end.ensures c.in_ok-to.ensures.ok c.loop-parts.parts c.loop-parts.invariant.built c.regroup_once.ensures.grows c.in_ok-to.ensures.later in
    record {
      grows = grows_on _ _ _ c.loop-parts.invariant.grows c.regroup_once.ensures.grows;
      sets = sets_on _ _ _ c.loop-parts.invariant.sets c.regroup_once.ensures.sets;
      seen = c.in_ok-to.ensures.seen;
      within = set_within c.args.st.now c.loop-parts.st c.args.f c.args.d c.loop-parts.from c.max-max.result c.part_near-end.result c.part_near-end.ensures c.loop-parts.invariant.grows c.max-max.ensures c.if-end-max.false;
      built = subst (AreBuilt c.args.st.now c.regroup_once.new.st c.regroup_once.new.ss c.args.f c.args.d (c.part_near-end.result.0 + 1)) (sym c.in_ok-push.ensures.ok) all;
      held = held_more c.args.st.now c.loop-parts.st c.regroup_once.new.st c.loop-parts.ss c.regroup_once.new.ss c.args.f c.args.d c.loop-parts.from c.part_near-end.result c.in_ok-to.to c.regroup_once.ensures.sets c.loop-parts.invariant.grows c.requires.id c.requires.split c.part_near-end.ensures c.in_ok-to.ensures.ok c.loop-parts.invariant.held;
    }
