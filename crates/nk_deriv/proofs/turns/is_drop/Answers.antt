use Rattle.nk_deriv.proofs.Steps.{sum_is_drop}
use Rattle.nk_deriv.proofs.turns.is_drop.Goals as goal

pub returns-in-Sum : goal.returns-in-Sum
returns-in-Sum c = sum_is_drop c.args.p.now c.in-Sum.ps _ _ c.in-Sum.is c.as_slice.ensures c.is_empty.ensures
