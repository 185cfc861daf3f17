use Rattle.std.proofs.Common.{◌∙◌, sym, subst, arith}
use Rattle.nk_store.specs.StoreState.{IsCase, IsNodeOf}
use Rattle.nk_steps.proofs.Plains.{leaf_plain, one_more_plain, parts_more_plain, case_plain}
use Rattle.nk_determ.proofs.HaveSets.{part_known}
use Rattle.nk_steps.proofs.plain.+plain.Goals as goal

pub plain_new-plain_part-requires : goal.plain_new-plain_part-requires
plain_new-plain_part-requires t c =
    let case : IsCase c.args.st.now c.args.d c.in-Case.field-0 c.in-Case.parts = subst (IsNodeOf c.args.st.now c.args.d) c.in-Case.is c.view.ensures.means in
    let known = part_known c.args.st.now c.args.d c.in-Case.field-0 c.in-Case.parts c.as_slice-part-items.result.now c.loop-part.part-index c.part-item.result case c.as_slice-part-items.ensures (omega (arith, c.loop-part-test.true)) c.part-item.is in
    (omega (arith, known.0, c.decreases), (known.1, c.loop-part.invariant.seen))

pub plain_new-loop-part-preserved : goal.plain_new-loop-part-preserved
plain_new-loop-part-preserved t c =
    let case : IsCase c.args.st.now c.args.d c.in-Case.field-0 c.in-Case.parts = subst (IsNodeOf c.args.st.now c.args.d) c.in-Case.is c.view.ensures.means in
    let known = part_known c.args.st.now c.args.d c.in-Case.field-0 c.in-Case.parts c.as_slice-part-items.result.now c.loop-part.part-index c.part-item.result case c.as_slice-part-items.ensures (omega (arith, c.loop-part-test.true)) c.part-item.is in
    record {
      seen = c.in_ok-plain_part-in-Case.ensures.seen;
      done = parts_more_plain c.args.st.now c.as_slice-part-items.result.now c.loop-part.part-index c.part-item.result.1 c.loop-part.invariant.done known.2 (c.in_ok-plain_part-in-Case.ensures.ok c.if-not-branch.false);
    }

pub plain_new-returns-after-loop-part-clause-ok : goal.plain_new-returns-after-loop-part-clause-ok
plain_new-returns-after-loop-part-clause-ok t c = λ _.
    let case : IsCase c.args.st.now c.args.d c.in-Case.field-0 c.in-Case.parts = subst (IsNodeOf c.args.st.now c.args.d) c.in-Case.is c.view.ensures.means in
    case_plain c.args.st.now c.args.d c.in-Case.field-0 c.in-Case.parts c.as_slice-part-items.result.now c.loop-part.part-index case c.as_slice-part-items.ensures (omega (arith, c.loop-part-test.false)) c.loop-part.invariant.done

pub plain_new-returns-in-Leaf-clause-ok : goal.plain_new-returns-in-Leaf-clause-ok
plain_new-returns-in-Leaf-clause-ok t c = λ h.
    leaf_plain c.args.st.now c.args.d c.as_slice.result.now
    (λ pk. (subst (IsNodeOf c.args.st.now c.args.d) c.in-Leaf.is c.view.ensures.means).leaf pk ∙ sym c.as_slice.ensures) (c.leaf_is_plain.ensures h)

pub plain_once-returns-then-contains-clause-ok : goal.plain_once-returns-then-contains-clause-ok
plain_once-returns-then-contains-clause-ok t c = λ _. c.requires.seen c.args.d (sym c.contains.ensures ∙ c.if-contains.true)

pub plain_once-returns-clause-ok : goal.plain_once-returns-clause-ok
plain_once-returns-clause-ok t c = λ _. c.in_ok-plain_new.ensures.ok c.if-not-branch.false

pub plain_once-returns-clause-seen : goal.plain_once-returns-clause-seen
plain_once-returns-clause-seen t c =
    one_more_plain c.args.st.now c.plain_new.new.seen.keys c.insert.new.self.keys c.args.d c.in_ok-plain_new.ensures.seen (c.in_ok-plain_new.ensures.ok c.if-not-branch.false) (λ q. c.in_ok-insert.ensures.updates.0 q)
