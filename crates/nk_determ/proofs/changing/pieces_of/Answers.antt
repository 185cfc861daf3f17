use Rattle.std.proofs.Common.{◌+◌, ◌∙◌, refl, sym, subst, ap, arith, get_or}
use Rattle.nk_store.proofs.Stores.{grows_on}
use Rattle.nk_store.specs.Nodes.{child_at}
use Rattle.nk_store.specs.StoreState.{look, AreParts, node_of}
use Rattle.nk_apply.proofs.Built.{Built, built_parts, built_leaf}
use Rattle.nk_apply.proofs.Parts.{split_at}
use Rattle.nk_determ.proofs.Pieces.{piece_leaf, IsCutBy, piece_push, piece_past}
use Rattle.nk_determ.proofs.changing.pieces_of.Goals as goal

pub loop-pieces-preserved : goal.loop-pieces-preserved
loop-pieces-preserved c =
    let known : IsCutBy c.args.st.now c.args.f c.args.d c.args.values.now = record {
      id = c.requires.id;
      field = c.requires.field;
      split = split_at c.args.st.now c.args.f c.args.d (node_of c.args.st.now c.args.d) c.requires.id refl (c.laws.ensures.nodes c.args.d c.requires.id) c.requires.first c.requires.field;
      values = c.requires.has;
      tidy = c.laws.ensures.tidy;
      still = c.laws.ensures.still;
    } in
    let all = piece_push c.args.st.now c.loop-pieces.st c.piece.new.st c.args.f c.args.d c.loop-pieces.from c.next_cut-end.result.0 c.args.values.now c.loop-pieces.pieces c.part_near-last.result c.in_ok-made.made c.next_cut-end.result.1 c.loop-pieces.invariant.built c.loop-pieces.invariant.grows c.piece.ensures.grows known c.part_near-last.ensures c.in_ok-made.ensures.ok c.in_ok-made.ensures.later c.next_cut-end.ensures.from c.next_cut-end.ensures.last c.next_cut-end.ensures.alone c.next_cut-end.ensures.none in
    record {
      grows = grows_on _ _ _ c.loop-pieces.invariant.grows c.piece.ensures.grows;
      within = omega (arith, c.part_near-last.ensures.within, c.next_cut-end.ensures.last, c.if-end-max.false, c.max-max.ensures, ap (λ ms. get_or ms c.args.f 0) c.loop-pieces.invariant.grows.maxes);
      built = subst (Built (piece_leaf c.args.st.now c.args.f c.args.d) c.piece.new.st c.args.f (c.next_cut-end.result.0 + 1)) (sym c.in_ok-push.ensures.ok) all;
    }

pub returns-then-end-max-clause-parts : goal.returns-then-end-max-clause-parts
returns-then-end-max-clause-parts c =
    let known : IsCutBy c.args.st.now c.args.f c.args.d c.args.values.now = record {
      id = c.requires.id;
      field = c.requires.field;
      split = split_at c.args.st.now c.args.f c.args.d (node_of c.args.st.now c.args.d) c.requires.id refl (c.laws.ensures.nodes c.args.d c.requires.id) c.requires.first c.requires.field;
      values = c.requires.has;
      tidy = c.laws.ensures.tidy;
      still = c.laws.ensures.still;
    } in
    let all = piece_push c.args.st.now c.loop-pieces.st c.piece.new.st c.args.f c.args.d c.loop-pieces.from c.next_cut-end.result.0 c.args.values.now c.loop-pieces.pieces c.part_near-last.result c.in_ok-made.made c.next_cut-end.result.1 c.loop-pieces.invariant.built c.loop-pieces.invariant.grows c.piece.ensures.grows known c.part_near-last.ensures c.in_ok-made.ensures.ok c.in_ok-made.ensures.later c.next_cut-end.ensures.from c.next_cut-end.ensures.last c.next_cut-end.ensures.alone c.next_cut-end.ensures.none in
    subst (AreParts c.piece.new.st c.args.f) (sym c.in_ok-push.ensures.ok)
    (built_parts (piece_leaf c.args.st.now c.args.f c.args.d) c.piece.new.st c.args.f c.next_cut-end.result.0 _ all c.requires.field
    (c.if-end-max.true ∙ c.max-max.ensures ∙ ap (λ ms. get_or ms c.args.f 0) (sym (grows_on _ _ _ c.loop-pieces.invariant.grows c.piece.ensures.grows).maxes)))

pub returns-then-end-max-clause-ok : goal.returns-then-end-max-clause-ok
returns-then-end-max-clause-ok c = λ v pk w.
    let known : IsCutBy c.args.st.now c.args.f c.args.d c.args.values.now = record {
      id = c.requires.id;
      field = c.requires.field;
      split = split_at c.args.st.now c.args.f c.args.d (node_of c.args.st.now c.args.d) c.requires.id refl (c.laws.ensures.nodes c.args.d c.requires.id) c.requires.first c.requires.field;
      values = c.requires.has;
      tidy = c.laws.ensures.tidy;
      still = c.laws.ensures.still;
    } in
    let all = piece_push c.args.st.now c.loop-pieces.st c.piece.new.st c.args.f c.args.d c.loop-pieces.from c.next_cut-end.result.0 c.args.values.now c.loop-pieces.pieces c.part_near-last.result c.in_ok-made.made c.next_cut-end.result.1 c.loop-pieces.invariant.built c.loop-pieces.invariant.grows c.piece.ensures.grows known c.part_near-last.ensures c.in_ok-made.ensures.ok c.in_ok-made.ensures.later c.next_cut-end.ensures.from c.next_cut-end.ensures.last c.next_cut-end.ensures.alone c.next_cut-end.ensures.none in
    ap (λ ps. look c.piece.new.st (child_at 0 ps v) pk) c.in_ok-push.ensures.ok
    ∙ built_leaf (piece_leaf c.args.st.now c.args.f c.args.d) c.piece.new.st c.args.f c.next_cut-end.result.0 _ all
    (piece_past c.args.st.now c.args.f c.args.d c.next_cut-end.result.0 known.split (c.if-end-max.true ∙ c.max-max.ensures)) v pk w
