use Rattle.std.proofs.Common.{◌∙◌, sym, subst, arith}
use Rattle.std.proofs.lemmas.Result.{on_ok_weaker}
use Rattle.nk_apply.proofs.MadeOf.{on_any}
use Rattle.nk_store.specs.StoreState.{IsCase, IsNodeOf}
use Rattle.nk_determ.proofs.Collected.{among_on, all_items_grow, one_more_has, leaf_has_items, parts_more_have, case_has_items}
use Rattle.nk_determ.proofs.HaveSets.{part_known}
use Rattle.nk_determ.proofs.assigned.+collect.Goals as goal

pub collect_once-returns-clause-seen : goal.collect_once-returns-clause-seen
collect_once-returns-clause-seen g t c =
    one_more_has (g.C.Collector.items c.args.c.now) c.collect_new.new.found c.args.st.now c.collect_new.new.seen.keys c.insert.new.self.keys c.args.d c.in_ok-collect_new.ensures.seen c.in_ok-collect_new.ensures.ok (λ q. c.in_ok-insert.ensures.updates.0 q)

pub collect_new-collect-requires : goal.collect_new-collect-requires
collect_new-collect-requires g t c κs within =
    let case : IsCase c.args.st.now c.args.d c.in-Case.field-0 c.in-Case.parts = subst (IsNodeOf c.args.st.now c.args.d) c.in-Case.is c.view.ensures.means in
    let known = part_known c.args.st.now c.args.d c.in-Case.field-0 c.in-Case.parts c.as_slice-part-items.result.now c.loop-part.part-index c.part-item.result case c.as_slice-part-items.ensures (omega (arith, c.loop-part-test.true)) c.part-item.is in
    (omega (arith, known.0, c.decreases), (within, (known.1, c.loop-part.invariant.seen)))

pub collect_new-loop-part-preserved : goal.collect_new-loop-part-preserved
collect_new-loop-part-preserved g t c =
    let case : IsCase c.args.st.now c.args.d c.in-Case.field-0 c.in-Case.parts = subst (IsNodeOf c.args.st.now c.args.d) c.in-Case.is c.view.ensures.means in
    let known = part_known c.args.st.now c.args.d c.in-Case.field-0 c.in-Case.parts c.as_slice-part-items.result.now c.loop-part.part-index c.part-item.result case c.as_slice-part-items.ensures (omega (arith, c.loop-part-test.true)) c.part-item.is in
    record {
      more = among_on _ _ _ c.loop-part.invariant.more c.collect.ensures.more;
      seen = c.in_ok-collect-in-Case.ensures.seen;
      done = parts_more_have (g.C.Collector.items c.args.c.now) c.loop-part.found c.collect.new.found c.args.st.now c.as_slice-part-items.result.now c.loop-part.part-index c.part-item.result.1 c.collect.ensures.more c.loop-part.invariant.done known.2 c.in_ok-collect-in-Case.ensures.ok;
    }

pub collect_new-returns-after-loop-part-clause-ok : goal.collect_new-returns-after-loop-part-clause-ok
collect_new-returns-after-loop-part-clause-ok g t c =
    let case : IsCase c.args.st.now c.args.d c.in-Case.field-0 c.in-Case.parts = subst (IsNodeOf c.args.st.now c.args.d) c.in-Case.is c.view.ensures.means in
    case_has_items (g.C.Collector.items c.args.c.now) c.loop-part.found c.args.st.now c.args.d c.in-Case.field-0 c.in-Case.parts c.as_slice-part-items.result.now c.loop-part.part-index case c.as_slice-part-items.ensures (omega (arith, c.loop-part-test.false)) c.loop-part.invariant.done

pub collect_once-returns-then-contains-clause-ok : goal.collect_once-returns-then-contains-clause-ok
collect_once-returns-then-contains-clause-ok g t c = c.requires.seen c.args.d (sym c.contains.ensures ∙ c.if-contains.true)

pub collect_new-returns-in-Leaf-clause-ok : goal.collect_new-returns-in-Leaf-clause-ok
collect_new-returns-in-Leaf-clause-ok g t c = on_ok_weaker c.add.result
    (λ h. leaf_has_items (g.C.Collector.items c.args.c.now) c.add.new.found c.args.st.now c.args.d c.as_slice.result.now
    (λ pk. (subst (IsNodeOf c.args.st.now c.args.d) c.in-Leaf.is c.view.ensures.means).leaf pk ∙ sym c.as_slice.ensures) h) c.add.ensures.ok

pub collect_new-returns-in-Leaf-clause-seen : goal.collect_new-returns-in-Leaf-clause-seen
collect_new-returns-in-Leaf-clause-seen g t c =
    on_any c.add.result _ (all_items_grow (g.C.Collector.items c.args.c.now) c.args.found.now c.add.new.found c.args.st.now c.args.seen.now.keys c.add.ensures.more c.requires.seen)

pub collect-returns-then-len-lt2-clause-ok : goal.collect-returns-then-len-lt2-clause-ok
collect-returns-then-len-lt2-clause-ok g t c = on_ok_weaker c.add.result
    (λ h. leaf_has_items (g.C.Collector.items c.args.c.now) c.add.new.found c.args.st.now c.args.d c.as_slice.result.now
    (λ pk. (subst (IsNodeOf c.args.st.now c.args.d) c.in-Leaf.is c.view.ensures.means).leaf pk ∙ sym c.as_slice.ensures) h) c.add.ensures.ok

pub collect-returns-then-len-lt2-clause-seen : goal.collect-returns-then-len-lt2-clause-seen
collect-returns-then-len-lt2-clause-seen g t c =
    on_any c.add.result _ (all_items_grow (g.C.Collector.items c.args.c.now) c.args.found.now c.add.new.found c.args.st.now c.args.seen.now.keys c.add.ensures.more c.requires.seen)
