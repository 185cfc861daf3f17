use Rattle.nk_nesting.proofs.Nested.{is_met}
use Rattle.nk_nesting.proofs.laws.the_limit_is_met.Goals as goal

pub returns : goal.returns
returns c = is_met
