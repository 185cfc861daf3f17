use Rattle.std.proofs.Common.{◌+◌, ◌∙◌, [], sym, subst, arith}
use Rattle.nk_store.proofs.Stores.{grows_on}
use Rattle.nk_apply.specs.Unions.{HaveParts}
use Rattle.nk_apply.proofs.Built.{Built}
use Rattle.nk_apply.proofs.Shorts.{leaves_grown}
use Rattle.nk_apply.proofs.PartSums.{both_at, both_push, both_all, found_child}
use Rattle.nk_apply.proofs.sums.join_parts.Goals as goal

pub union_beside-requires-clause-left : goal.union_beside-requires-clause-left
union_beside-requires-clause-left c =
    c.loop-parts.invariant.grows.ids c.found_near-end_x.result.1
    (found_child c.args.st.now c.args.f c.loop-parts.from c.args.xs.now c.found_near-end_x.result c.requires.left (omega (arith, c.loop-parts.invariant.within, c.max-max.ensures)) c.found_near-end_x.ensures.found).id

pub union_beside-requires-clause-right : goal.union_beside-requires-clause-right
union_beside-requires-clause-right c =
    c.loop-parts.invariant.grows.ids c.found_near-end_y.result.1
    (found_child c.args.st.now c.args.f c.loop-parts.from c.args.ys.now c.found_near-end_y.result c.requires.right (omega (arith, c.loop-parts.invariant.within, c.max-max.ensures)) c.found_near-end_y.ensures.found).id

pub union_beside-requires-clause-none : goal.union_beside-requires-clause-none
union_beside-requires-clause-none c = c.loop-parts.invariant.none

pub returns-then-end-max-clause-ok : goal.returns-then-end-max-clause-ok
returns-then-end-max-clause-ok c =
    let all = both_push c.args.st.now c.loop-parts.st c.union_beside.new.st c.args.f c.loop-parts.from c.args.xs.now c.args.ys.now c.loop-parts.parts
    c.found_near-end_x.result c.found_near-end_y.result c.in_ok-child.child c.min-end.result c.loop-parts.invariant.built c.loop-parts.invariant.grows c.union_beside.ensures.grows
    c.requires.left c.requires.right (omega (arith, c.loop-parts.invariant.within, c.max-max.ensures)) c.found_near-end_x.ensures.found c.found_near-end_y.ensures.found c.min-end.ensures c.in_ok-child.ensures.ok c.in_ok-child.ensures.later in
    subst (HaveParts c.union_beside.new.st c.args.f (both_at c.args.st.now c.args.xs.now c.args.ys.now)) (sym c.in_ok-push.ensures.ok)
    (both_all c.args.st.now c.union_beside.new.st c.args.f c.min-end.result c.args.xs.now c.args.ys.now _ all
    (grows_on _ _ _ c.loop-parts.invariant.grows c.union_beside.ensures.grows) c.requires.left c.requires.right (c.if-end-max.true ∙ c.max-max.ensures))

pub loop-parts-preserved : goal.loop-parts-preserved
loop-parts-preserved c =
    let all = both_push c.args.st.now c.loop-parts.st c.union_beside.new.st c.args.f c.loop-parts.from c.args.xs.now c.args.ys.now c.loop-parts.parts
    c.found_near-end_x.result c.found_near-end_y.result c.in_ok-child.child c.min-end.result c.loop-parts.invariant.built c.loop-parts.invariant.grows c.union_beside.ensures.grows
    c.requires.left c.requires.right (omega (arith, c.loop-parts.invariant.within, c.max-max.ensures)) c.found_near-end_x.ensures.found c.found_near-end_y.ensures.found c.min-end.ensures c.in_ok-child.ensures.ok c.in_ok-child.ensures.later in
    record {
      grows = grows_on _ _ _ c.loop-parts.invariant.grows c.union_beside.ensures.grows;
      within = omega (arith, c.min-end.ensures, c.found_near-end_x.ensures.within, c.if-end-max.false);
      none = leaves_grown c.loop-parts.st c.union_beside.new.st c.in_ok-none.none (λ pk. []) c.union_beside.ensures.grows c.loop-parts.invariant.none;
      built = subst (Built (both_at c.args.st.now c.args.xs.now c.args.ys.now) c.union_beside.new.st c.args.f (c.min-end.result + 1)) (sym c.in_ok-push.ensures.ok) all;
    }
