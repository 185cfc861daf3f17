use Rattle.std.proofs.Common.{◌≡◌, ◌+◌, ◌∙◌, sym, ap, subst, arith, get_or}
use Rattle.nk_store.proofs.Stores.{grows_on}
use Rattle.nk_apply.specs.Unions.{HaveParts}
use Rattle.nk_apply.proofs.Built.{Built}
use Rattle.nk_apply.proofs.Intervals.{all_at, all_push, all_whole, ids_grow, first_grows, low_grows}
use Rattle.nk_apply.proofs.few.few_parts.Goals as goal

pub interval_at-requires-clause-ids : goal.interval_at-requires-clause-ids
interval_at-requires-clause-ids c = ids_grow c.args.st.now c.loop-parts.st c.args.ds.now c.loop-parts.invariant.grows c.requires.ids

pub interval_at-requires-clause-first : goal.interval_at-requires-clause-first
interval_at-requires-clause-first c = first_grows c.args.st.now c.loop-parts.st c.args.f c.args.ds.now c.loop-parts.invariant.grows c.requires.ids c.requires.first

pub interval_at-requires-clause-within : goal.interval_at-requires-clause-within
interval_at-requires-clause-within c = low_grows c.args.st.now c.loop-parts.st c.args.f c.loop-parts.from c.max-max.result c.loop-parts.invariant.grows c.max-max.ensures c.loop-parts.invariant.within

pub union_there-requires-clause-ids : goal.union_there-requires-clause-ids
union_there-requires-clause-ids c = ids_grow c.args.st.now c.loop-parts.st c.args.ds.now c.loop-parts.invariant.grows c.requires.ids

pub union_there-requires-clause-first : goal.union_there-requires-clause-first
union_there-requires-clause-first c = first_grows c.args.st.now c.loop-parts.st c.args.f c.args.ds.now c.loop-parts.invariant.grows c.requires.ids c.requires.first

pub returns-then-end-max-clause-ok : goal.returns-then-end-max-clause-ok
returns-then-end-max-clause-ok c =
    let old = c.args.st.now in
    let new = c.union_there.new.st in
    let all = all_push old c.loop-parts.st new c.args.f c.loop-parts.from c.in_ok-end.end c.in_ok-child.child c.args.ds.now c.loop-parts.parts c.loop-parts.invariant.built c.loop-parts.invariant.grows c.union_there.ensures.grows
    c.laws.ensures.nodes c.requires.ids c.requires.first c.requires.field c.in_ok-end.ensures.from c.in_ok-end.ensures.steady c.in_ok-child.ensures.later c.in_ok-child.ensures.ok in
    subst (HaveParts new c.args.f (all_at old c.args.f c.args.ds.now)) (sym c.in_ok-push.ensures.ok)
    (all_whole old new c.args.f c.in_ok-end.end c.args.ds.now _ all (grows_on _ _ _ c.loop-parts.invariant.grows c.union_there.ensures.grows)
    c.laws.ensures.nodes c.requires.ids c.requires.first c.requires.field (c.if-end-max.true ∙ c.max-max.ensures))

pub loop-parts-preserved : goal.loop-parts-preserved
loop-parts-preserved c =
    let old = c.args.st.now in
    let new = c.union_there.new.st in
    let all = all_push old c.loop-parts.st new c.args.f c.loop-parts.from c.in_ok-end.end c.in_ok-child.child c.args.ds.now c.loop-parts.parts c.loop-parts.invariant.built c.loop-parts.invariant.grows c.union_there.ensures.grows
    c.laws.ensures.nodes c.requires.ids c.requires.first c.requires.field c.in_ok-end.ensures.from c.in_ok-end.ensures.steady c.in_ok-child.ensures.later c.in_ok-child.ensures.ok in
    let same : get_or c.loop-parts.st.maxes c.args.f 0 ≡ get_or old.maxes c.args.f 0 = ap (λ ms. get_or ms c.args.f 0) c.loop-parts.invariant.grows.maxes in
    record {
      grows = grows_on _ _ _ c.loop-parts.invariant.grows c.union_there.ensures.grows;
      within = omega (arith, c.in_ok-end.ensures.within, same, c.max-max.ensures, c.if-end-max.false);
      built = subst (Built (all_at old c.args.f c.args.ds.now) new c.args.f (c.in_ok-end.end + 1)) (sym c.in_ok-push.ensures.ok) all;
    }
