use Rattle.nk_policy.proofs.TextSteps.{sum_has_part}
use Rattle.nk_policy.proofs.text.is_sum.Goals as goal

pub returns-in-Sum : goal.returns-in-Sum
returns-in-Sum c = sum_has_part _ c.in-Sum.ps _ _ c.in-Sum.is c.as_slice.ensures c.is_empty.ensures
