use Rattle.std.proofs.Common.{◌≤◌, ◌+◌, ◌∙◌, ap, sym, subst, arith}
use Rattle.nk_store.specs.Nodes.{child_at}
use Rattle.nk_store.specs.StoreState.{IsId, look, root_field, AreParts}
use Rattle.nk_apply.proofs.Built.{Built, built_parts, built_leaf}
use Rattle.nk_algebra.proofs.Cuts.{found_piece, served, piece_leaf, piece_push, piece_past, split_child}
use Rattle.nk_algebra.proofs.choices.finer.Goals as goal

pub part_near-until-requires-clause-id : goal.part_near-until-requires-clause-id
part_near-until-requires-clause-id c =
    served (IsId c.args.st.now) c.args.st.now c.args.f c.loop-pieces.from c.args.parts.now c.found_near-last.result c.requires.choices c.requires.choices.ids
    (found_piece c.args.st.now c.args.f c.loop-pieces.from c.max-max.result c.args.parts.now c.as_slice.result.now c.found_near-last.result c.requires.choices c.found_near-last.ensures.found c.as_slice.ensures c.loop-pieces.invariant.within c.max-max.ensures)

pub part_near-until-requires-clause-first : goal.part_near-until-requires-clause-first
part_near-until-requires-clause-first c =
    served (λ k. c.args.f ≤ root_field c.args.st.now k) c.args.st.now c.args.f c.loop-pieces.from c.args.parts.now c.found_near-last.result c.requires.choices c.requires.first
    (found_piece c.args.st.now c.args.f c.loop-pieces.from c.max-max.result c.args.parts.now c.as_slice.result.now c.found_near-last.result c.requires.choices c.found_near-last.ensures.found c.as_slice.ensures c.loop-pieces.invariant.within c.max-max.ensures)

pub returns-then-end-max-clause-parts : goal.returns-then-end-max-clause-parts
returns-then-end-max-clause-parts c =
    let st = c.args.st.now in
    let serves = found_piece st c.args.f c.loop-pieces.from c.max-max.result c.args.parts.now c.as_slice.result.now c.found_near-last.result c.requires.choices c.found_near-last.ensures.found c.as_slice.ensures c.loop-pieces.invariant.within c.max-max.ensures in
    let all = piece_push st c.args.f c.loop-pieces.from c.min-end.result c.args.parts.now c.loop-pieces.pieces c.found_near-last.result c.part_near-until.result c.loop-pieces.invariant.built serves c.part_near-until.ensures c.min-end.ensures in
    subst (AreParts st c.args.f) (sym c.in_ok-push.ensures.ok)
    (built_parts (piece_leaf st c.args.f c.args.parts.now) st c.args.f c.min-end.result _ all c.requires.choices.field (c.if-end-max.true ∙ c.max-max.ensures))

pub returns-then-end-max-clause-ok : goal.returns-then-end-max-clause-ok
returns-then-end-max-clause-ok c = λ v pk w.
    let st = c.args.st.now in
    let ps = c.args.parts.now in
    let serves = found_piece st c.args.f c.loop-pieces.from c.max-max.result ps c.as_slice.result.now c.found_near-last.result c.requires.choices c.found_near-last.ensures.found c.as_slice.ensures c.loop-pieces.invariant.within c.max-max.ensures in
    let all = piece_push st c.args.f c.loop-pieces.from c.min-end.result ps c.loop-pieces.pieces c.found_near-last.result c.part_near-until.result c.loop-pieces.invariant.built serves c.part_near-until.ensures c.min-end.ensures in
    ap (λ qs. look st (child_at 0 qs v) pk) c.in_ok-push.ensures.ok
    ∙ built_leaf (piece_leaf st c.args.f ps) st c.args.f c.min-end.result _ all
    (piece_past st c.args.f c.min-end.result ps c.requires.choices (λ x. split_child st c.args.f c.args.f ps x c.requires.choices (omega arith) c.requires.first c.laws.ensures.nodes) (c.if-end-max.true ∙ c.max-max.ensures)) v pk w

pub loop-pieces-smaller : goal.loop-pieces-smaller
loop-pieces-smaller c =
    let st = c.args.st.now in
    let serves = found_piece st c.args.f c.loop-pieces.from c.max-max.result c.args.parts.now c.as_slice.result.now c.found_near-last.result c.requires.choices c.found_near-last.ensures.found c.as_slice.ensures c.loop-pieces.invariant.within c.max-max.ensures in
    omega (arith, serves.from, serves.within, c.part_near-until.ensures.from, c.min-end.ensures, c.if-end-max.false, c.max-max.ensures)

pub loop-pieces-preserved : goal.loop-pieces-preserved
loop-pieces-preserved c =
    let st = c.args.st.now in
    let serves = found_piece st c.args.f c.loop-pieces.from c.max-max.result c.args.parts.now c.as_slice.result.now c.found_near-last.result c.requires.choices c.found_near-last.ensures.found c.as_slice.ensures c.loop-pieces.invariant.within c.max-max.ensures in
    let all = piece_push st c.args.f c.loop-pieces.from c.min-end.result c.args.parts.now c.loop-pieces.pieces c.found_near-last.result c.part_near-until.result c.loop-pieces.invariant.built serves c.part_near-until.ensures c.min-end.ensures in
    record {
      within = omega (arith, serves.within, c.min-end.ensures, c.if-end-max.false, c.max-max.ensures);
      built = subst (Built (piece_leaf st c.args.f c.args.parts.now) st c.args.f (c.min-end.result + 1)) (sym c.in_ok-push.ensures.ok) all;
    }
