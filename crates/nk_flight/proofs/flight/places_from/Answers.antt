use Rattle.std.proofs.Common.{◌∙◌, ◌+◌, ◌++◌, ◌∷◌, [], ap, sym}
use Rattle.nk_flight.proofs.Trails.{range_more}
use Rattle.nk_flight.proofs.flight.places_from.Goals as goal

pub loop-i-preserved : goal.loop-i-preserved
loop-i-preserved c =
    c.in_ok-push.ensures.items
    ∙ ap (λ l. l ++ (c.args.first + c.loop-i.i) ∷ []) c.loop-i.invariant
    ∙ sym (range_more c.args.first c.loop-i.i)
