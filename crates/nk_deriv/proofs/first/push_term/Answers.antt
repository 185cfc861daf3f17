use Rattle.std.proofs.Common.{refl, sym, ◌∙◌}
use Rattle.nk_deriv.proofs.Steps.{either_drop, either_push}
use Rattle.nk_deriv.proofs.first.push_term.Goals as goal

pub returns-then-none : goal.returns-then-none
returns-then-none c = either_drop _ _ _ refl (sym c.is_drop-none.ensures ∙ c.if-none.true)

pub returns : goal.returns
returns c = either_push _ _ _ c.in_ok-push.ensures.items
