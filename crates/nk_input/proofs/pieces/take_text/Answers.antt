use Rattle.std.proofs.Common.{◌≡◌, ◌++◌, sym, ap, ◌∙◌, take}
use Rattle.std.proofs.lemmas.List.{take-append-drop}
use Rattle.nk_input.proofs.TakenTexts.{piece_more}
use Rattle.nk_input.proofs.pieces.take_text.Goals as goal

pub pieces-preserved : goal.pieces-preserved
pieces-preserved g c =
    let so = c.pieces.invariant in
    let split : c.pieces.rest.now ≡ c.split_at.result.0.now ++ c.split_at.result.1.now =
    sym (ap (λ l. l ++ c.split_at.result.1.now) c.split_at.ensures.front
    ∙ ap (λ l. take c.min.result c.pieces.rest.now ++ l) c.split_at.ensures.back ∙ take-append-drop c.min.result c.pieces.rest.now) in
    piece_more _ _ c.split_at.result.0.now c.split_at.result.1.now _ _ _ _ so split (c.in_ok-take_piece.ensures.fed so.front so.fed)
    (c.in_ok-take_piece.ensures.taken so.front so.fed so.taken)
