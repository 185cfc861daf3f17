use Rattle.std.proofs.Common.{◌+◌, ◌∙◌, sym, subst, ap, get_or}
use Rattle.nk_store.proofs.Stores.{grows_on}
use Rattle.nk_store.specs.Nodes.{child_at}
use Rattle.nk_store.specs.StoreState.{look, AreParts}
use Rattle.nk_apply.specs.Leaves.{guarded}
use Rattle.nk_apply.proofs.Built.{Built, built_parts, built_leaf}
use Rattle.nk_apply.proofs.Merges.{pair_at, pair_past}
use Rattle.nk_sets.proofs.Cutting.{cut_push, end_within}
use Rattle.nk_sets.proofs.at_sets.+at_packets.Goals as goal

pub cut_parts-returns-then-end-max-clause-parts : goal.cut_parts-returns-then-end-max-clause-parts
cut_parts-returns-then-end-max-clause-parts t c =
    let all = cut_push c.args.st.now c.loop-parts.st c.at_packets.new.st c.args.f c.args.s c.args.d c.loop-parts.from c.loop-parts.parts
    c.part_near-end_here.result c.part_near-end_there.result c.in_ok-child.child c.end_of-end.result c.loop-parts.invariant.built c.loop-parts.invariant.grows c.at_packets.ensures.grows
    c.requires.set c.requires.diagram c.requires.first c.part_near-end_here.ensures c.part_near-end_there.ensures c.end_of-end.ensures c.in_ok-child.ensures.ok c.in_ok-child.ensures.later in
    subst (AreParts c.at_packets.new.st c.args.f) (sym c.in_ok-push.ensures.ok)
    (built_parts (pair_at guarded c.args.st.now c.args.f c.args.s c.args.d) c.at_packets.new.st c.args.f c.end_of-end.result _ all c.requires.first.field
    (c.if-end-max.true ∙ c.max-max.ensures ∙ ap (λ ms. get_or ms c.args.f 0) (sym (grows_on _ _ _ c.loop-parts.invariant.grows c.at_packets.ensures.grows).maxes)))

pub cut_parts-returns-then-end-max-clause-ok : goal.cut_parts-returns-then-end-max-clause-ok
cut_parts-returns-then-end-max-clause-ok t c = λ v pk w.
    let all = cut_push c.args.st.now c.loop-parts.st c.at_packets.new.st c.args.f c.args.s c.args.d c.loop-parts.from c.loop-parts.parts
    c.part_near-end_here.result c.part_near-end_there.result c.in_ok-child.child c.end_of-end.result c.loop-parts.invariant.built c.loop-parts.invariant.grows c.at_packets.ensures.grows
    c.requires.set c.requires.diagram c.requires.first c.part_near-end_here.ensures c.part_near-end_there.ensures c.end_of-end.ensures c.in_ok-child.ensures.ok c.in_ok-child.ensures.later in
    ap (λ ps. look c.at_packets.new.st (child_at 0 ps v) pk) c.in_ok-push.ensures.ok
    ∙ built_leaf (pair_at guarded c.args.st.now c.args.f c.args.s c.args.d) c.at_packets.new.st c.args.f c.end_of-end.result _ all (pair_past guarded c.args.st.now c.args.f c.args.s c.args.d c.end_of-end.result c.requires.first (c.if-end-max.true ∙ c.max-max.ensures)) v pk w

pub cut_parts-loop-parts-preserved : goal.cut_parts-loop-parts-preserved
cut_parts-loop-parts-preserved t c =
    let all = cut_push c.args.st.now c.loop-parts.st c.at_packets.new.st c.args.f c.args.s c.args.d c.loop-parts.from c.loop-parts.parts
    c.part_near-end_here.result c.part_near-end_there.result c.in_ok-child.child c.end_of-end.result c.loop-parts.invariant.built c.loop-parts.invariant.grows c.at_packets.ensures.grows
    c.requires.set c.requires.diagram c.requires.first c.part_near-end_here.ensures c.part_near-end_there.ensures c.end_of-end.ensures c.in_ok-child.ensures.ok c.in_ok-child.ensures.later in
    record {
      grows = grows_on _ _ _ c.loop-parts.invariant.grows c.at_packets.ensures.grows;
      within = end_within c.args.st.now c.loop-parts.st c.args.f c.args.s c.loop-parts.from c.end_of-end.result c.max-max.result c.part_near-end_here.result c.part_near-end_there.result c.part_near-end_here.ensures c.end_of-end.ensures c.loop-parts.invariant.grows c.max-max.ensures c.if-end-max.false;
      built = subst (Built (pair_at guarded c.args.st.now c.args.f c.args.s c.args.d) c.at_packets.new.st c.args.f (c.end_of-end.result + 1)) (sym c.in_ok-push.ensures.ok) all;
    }
