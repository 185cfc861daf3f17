use Rattle.std.proofs.Common.{sym, ◌∙◌}
use Rattle.nk_deriv.proofs.Steps.{rounds_of_drop, rounds_of_star}
use Rattle.nk_deriv.proofs.turns.repeated.Goals as goal

pub returns-then-drops : goal.returns-then-drops
returns-then-drops c = rounds_of_drop _ _ c.keeping.ensures (sym c.is_drop-drops.ensures ∙ c.if-drops.true)

pub returns : goal.returns
returns c = rounds_of_star _ _ c.in_ok-star.ensures
