use Rattle.std.proofs.Common.{ap, ◌++◌, ◌∷◌, [], ◌∙◌}
use Rattle.nk_deriv.proofs.rest.arriving.Goals as goal

pub returns-clause-legs : goal.returns-clause-legs
returns-clause-legs c =
    (c.in_ok-moved.moved, c.in_ok-push.ensures.ok ∙ ap (λ o. o ++ (c.in_ok-moved.moved, c.args.label) ∷ []) c.new-legs.ensures, c.in_ok-moved.ensures)
