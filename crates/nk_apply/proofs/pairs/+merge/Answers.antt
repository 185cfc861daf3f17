use Rattle.std.proofs.Common.{◌+◌, ◌∙◌, sym, subst, ap, get_or, arith, ℕ, List}
use Rattle.nk_store.specs.StoreState.{look, AreParts, HasLeaves}
use Rattle.std.proofs.lemmas.Result.{IfOk-weaker}
use Rattle.nk_store.specs.declared.node.Out.{Out}
use Rattle.nk_apply.specs.Cofactors.{cofactor}
use Rattle.nk_apply.proofs.Sequences.{same_looks}
use Rattle.nk_apply.proofs.Shorts.{leaves_grown}
use Rattle.nk_store.proofs.Stores.{grows_on}
use Rattle.nk_store.specs.Nodes.{child_at}
use Rattle.nk_apply.proofs.Built.{Built, built_parts, built_leaf, end_within}
use Rattle.nk_apply.proofs.Merges.{pair_at, pair_push, pair_past}
use Rattle.nk_apply.proofs.pairs.+merge.Goals as goal

pub merge_parts-returns-then-end-max-clause-parts : goal.merge_parts-returns-then-end-max-clause-parts
merge_parts-returns-then-end-max-clause-parts g t c =
    let all = pair_push (g.J.Join.joined c.args.j.now) c.args.st.now c.loop-parts.st c.merge.new.st c.args.f c.args.a c.args.b c.loop-parts.from c.loop-parts.parts
    c.part_near-end_a.result c.part_near-end_b.result c.in_ok-child.child c.min-end.result c.loop-parts.invariant.built c.loop-parts.invariant.grows c.merge.ensures.grows
    c.requires.left c.requires.right c.requires.first c.part_near-end_a.ensures c.part_near-end_b.ensures c.min-end.ensures c.in_ok-child.ensures.ok c.in_ok-child.ensures.later in
    subst (AreParts c.merge.new.st c.args.f) (sym c.in_ok-push.ensures.ok)
    (built_parts (pair_at (g.J.Join.joined c.args.j.now) c.args.st.now c.args.f c.args.a c.args.b) c.merge.new.st c.args.f c.min-end.result _ all c.requires.first.field
    (c.if-end-max.true ∙ c.max-max.ensures ∙ ap (λ ms. get_or ms c.args.f 0) (sym (grows_on _ _ _ c.loop-parts.invariant.grows c.merge.ensures.grows).maxes)))

pub merge_parts-returns-then-end-max-clause-ok : goal.merge_parts-returns-then-end-max-clause-ok
merge_parts-returns-then-end-max-clause-ok g t c = λ v pk w.
    let all = pair_push (g.J.Join.joined c.args.j.now) c.args.st.now c.loop-parts.st c.merge.new.st c.args.f c.args.a c.args.b c.loop-parts.from c.loop-parts.parts
    c.part_near-end_a.result c.part_near-end_b.result c.in_ok-child.child c.min-end.result c.loop-parts.invariant.built c.loop-parts.invariant.grows c.merge.ensures.grows
    c.requires.left c.requires.right c.requires.first c.part_near-end_a.ensures c.part_near-end_b.ensures c.min-end.ensures c.in_ok-child.ensures.ok c.in_ok-child.ensures.later in
    ap (λ ps. look c.merge.new.st (child_at 0 ps v) pk) c.in_ok-push.ensures.ok
    ∙ built_leaf (pair_at (g.J.Join.joined c.args.j.now) c.args.st.now c.args.f c.args.a c.args.b) c.merge.new.st c.args.f c.min-end.result _ all (pair_past (g.J.Join.joined c.args.j.now) c.args.st.now c.args.f c.args.a c.args.b c.min-end.result c.requires.first (c.if-end-max.true ∙ c.max-max.ensures)) v pk w

pub merge_parts-loop-parts-preserved : goal.merge_parts-loop-parts-preserved
merge_parts-loop-parts-preserved g t c =
    let all = pair_push (g.J.Join.joined c.args.j.now) c.args.st.now c.loop-parts.st c.merge.new.st c.args.f c.args.a c.args.b c.loop-parts.from c.loop-parts.parts
    c.part_near-end_a.result c.part_near-end_b.result c.in_ok-child.child c.min-end.result c.loop-parts.invariant.built c.loop-parts.invariant.grows c.merge.ensures.grows
    c.requires.left c.requires.right c.requires.first c.part_near-end_a.ensures c.part_near-end_b.ensures c.min-end.ensures c.in_ok-child.ensures.ok c.in_ok-child.ensures.later in
    record {
      grows = grows_on _ _ _ c.loop-parts.invariant.grows c.merge.ensures.grows;
      within = end_within c.args.st.now c.loop-parts.st c.args.f c.args.a c.loop-parts.from c.min-end.result c.max-max.result c.part_near-end_a.result c.part_near-end_b.result c.part_near-end_a.ensures c.min-end.ensures c.loop-parts.invariant.grows c.max-max.ensures c.if-end-max.false;
      built = subst (Built (pair_at (g.J.Join.joined c.args.j.now) c.args.st.now c.args.f c.args.a c.args.b) c.merge.new.st c.args.f (c.min-end.result + 1)) (sym c.in_ok-push.ensures.ok) all;
    }

pub merge-returns-in_err-keep-clause-grows : goal.merge-returns-in_err-keep-clause-grows
merge-returns-in_err-keep-clause-grows g t c = grows_on _ _ _ c.merge_anew.ensures.grows c.keep.ensures.grows

pub merge-returns-clause-grows : goal.merge-returns-clause-grows
merge-returns-clause-grows g t c = grows_on _ _ _ c.merge_anew.ensures.grows c.keep.ensures.grows

pub merge-returns-clause-ok : goal.merge-returns-clause-ok
merge-returns-clause-ok g t c = leaves_grown _ _ c.in_ok-d.d _ c.keep.ensures.grows c.in_ok-d.ensures.ok

pub merge-returns-clause-later : goal.merge-returns-clause-later
merge-returns-clause-later g t c =
    let same = c.keep.ensures.grows.root_fields c.in_ok-d.d c.in_ok-d.ensures.ok.id in
    omega (arith, same, c.in_ok-d.ensures.later)

pub merge-keep-requires-clause-leaves : goal.merge-keep-requires-clause-leaves
merge-keep-requires-clause-leaves g t c =
    let old = c.args.st.now in
    let mid = c.merge_anew.new.st in
    let first = same_looks old mid c.args.a c.merge_anew.ensures.grows c.requires.left in
    let second = same_looks old mid c.args.b c.merge_anew.ensures.grows c.requires.right in
    subst (λ (x : List ℕ → List Out). HasLeaves mid c.in_ok-d.d (λ pk. g.J.Join.joined c.args.j.now (x pk) (look mid c.args.b pk))) (sym first)
    (subst (λ (y : List ℕ → List Out). HasLeaves mid c.in_ok-d.d (λ pk. g.J.Join.joined c.args.j.now (look old c.args.a pk) (y pk))) (sym second) c.in_ok-d.ensures.ok)

pub merge_case-returns-clause-grows : goal.merge_case-returns-clause-grows
merge_case-returns-clause-grows g t c = grows_on _ _ _ c.merge_parts.ensures.grows c.case.ensures.grows

pub merge_case-returns-clause-ok : goal.merge_case-returns-clause-ok
merge_case-returns-clause-ok g t c =
    let st = c.args.st.now in
    let first = c.requires.first in
    IfOk-weaker c.case.result _ _
    (λ d h. record {
      id = h.id;
      leaf = λ pk w.
          h.leaf pk w ∙ c.in_ok-parts.ensures.ok (get_or pk c.args.f 0) pk w
          ∙ ap (λ xs. g.J.Join.joined c.args.j.now xs (look st (cofactor st c.args.f (get_or pk c.args.f 0) c.args.b) pk)) (sym (first.left.leaf pk))
          ∙ ap (λ ys. g.J.Join.joined c.args.j.now (look st c.args.a pk) ys) (sym (first.right.leaf pk));
    }) c.case.ensures.ok

pub merge_parts-returns-in_err-child-clause-grows : goal.merge_parts-returns-in_err-child-clause-grows
merge_parts-returns-in_err-child-clause-grows g t c = grows_on _ _ _ c.loop-parts.invariant.grows c.merge.ensures.grows

pub merge_parts-returns-in_err-push-clause-grows : goal.merge_parts-returns-in_err-push-clause-grows
merge_parts-returns-in_err-push-clause-grows g t c = grows_on _ _ _ c.loop-parts.invariant.grows c.merge.ensures.grows

pub merge_parts-returns-then-end-max-clause-grows : goal.merge_parts-returns-then-end-max-clause-grows
merge_parts-returns-then-end-max-clause-grows g t c = grows_on _ _ _ c.loop-parts.invariant.grows c.merge.ensures.grows
