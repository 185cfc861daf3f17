use Rattle.std.proofs.Common.{◌≡◌, ◌+◌, ◌∙◌, sym, subst, arith, get_or}
use Rattle.nk_store.proofs.Stores.{grows_on}
use Rattle.nk_apply.proofs.MadeOf.{on_any}
use Rattle.nk_apply.proofs.Turned.{set_within}
use Rattle.nk_sets.specs.Outs.{IsUpTo}
use Rattle.nk_sets.proofs.ByOut.{kept_on, kept_put, up_to_push, up_to_all}
use Rattle.nk_sets.proofs.outs.+outs.Goals as goal

pub visit-returns-clause-seen : goal.visit-returns-clause-seen
visit-returns-clause-seen t c =
    kept_put c.outs_new.new.st c.args.d c.in_ok-made.made c.outs_new.new.seen c.insert.new.self c.in_ok-made.ensures.seen c.in_ok-made.ensures.ok c.in_ok-insert.ensures.found

pub outs_new-returns-in-None-clause-seen : goal.outs_new-returns-in-None-clause-seen
outs_new-returns-in-None-clause-seen t c = on_any c.outs_of_leaf.result _ (kept_on c.args.st.now c.outs_of_leaf.new.st c.args.seen.now c.outs_of_leaf.ensures.grows c.requires.seen)

pub outs_of_case-returns-clause-seen : goal.outs_of_case-returns-clause-seen
outs_of_case-returns-clause-seen t c = on_any c.grouped.result _ (kept_on c.outs_of_parts.new.st c.grouped.new.st c.outs_of_parts.new.seen c.grouped.ensures.grows c.in_ok-all.ensures.seen)

pub put_outs-returns-in-None-clause-seen : goal.put_outs-returns-in-None-clause-seen
put_outs-returns-in-None-clause-seen t c =
    on_any c.put_leaf.result _ (kept_on c.args.st.now c.put_leaf.new.st c.args.seen.now c.put_leaf.ensures.grows c.requires.seen)

pub outs_of_parts-returns-then-end-max-clause-ok : goal.outs_of_parts-returns-then-end-max-clause-ok
outs_of_parts-returns-then-end-max-clause-ok t c =
    let g = grows_on _ _ _ c.loop-all.invariant.grows c.put_outs.ensures.grows in
    let e : get_or c.args.st.now.maxes c.args.f 0 ≡ c.part_near-end.result.0 = sym (c.if-end-max.true ∙ c.max-max.ensures) in
    let put = c.in_ok-put_outs.ensures.ok in
    up_to_all c.args.st.now c.put_outs.new.st c.args.d c.args.f (c.part_near-end.result.0 + 1) c.put_outs.new.all c.requires.id c.requires.first g (omega (arith, e))
    (subst (IsUpTo c.args.st.now c.args.d c.args.f (c.part_near-end.result.0 + 1) c.put_outs.new.st) (sym put.2)
    (up_to_push c.args.st.now c.loop-all.st c.put_outs.new.st c.args.d c.args.f c.loop-all.from c.part_near-end.result put.0 c.loop-all.all c.requires.id c.requires.split c.loop-all.invariant.grows
    c.part_near-end.ensures c.put_outs.ensures.grows put.1 c.loop-all.invariant.made))

pub outs_of_parts-loop-all-preserved : goal.outs_of_parts-loop-all-preserved
outs_of_parts-loop-all-preserved t c =
    let put = c.in_ok-put_outs.ensures.ok in
    record {
      grows = grows_on _ _ _ c.loop-all.invariant.grows c.put_outs.ensures.grows;
      seen = c.in_ok-put_outs.ensures.seen;
      within = set_within c.args.st.now c.loop-all.st c.args.f c.args.d c.loop-all.from c.max-max.result c.part_near-end.result c.part_near-end.ensures c.loop-all.invariant.grows c.max-max.ensures c.if-end-max.false;
      made = subst (IsUpTo c.args.st.now c.args.d c.args.f (c.part_near-end.result.0 + 1) c.put_outs.new.st) (sym put.2)
          (up_to_push c.args.st.now c.loop-all.st c.put_outs.new.st c.args.d c.args.f c.loop-all.from c.part_near-end.result put.0 c.loop-all.all c.requires.id c.requires.split c.loop-all.invariant.grows
          c.part_near-end.ensures c.put_outs.ensures.grows put.1 c.loop-all.invariant.made);
    }
