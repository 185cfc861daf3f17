use Rattle.std.specs.Prelude.{[]}
use Rattle.nk_policy.proofs.Splitting.{splits, joins}
use Rattle.nk_policy.proofs.Positions.{passes, goes_on}
use Rattle.nk_policy.proofs.laws.last_step.Goals as goal

pub returns-clause-step : goal.returns-clause-step
returns-clause-step c = λ p d pk u x l y k. (λ r. passes p d pk u x l [] y k r, λ s. goes_on p d pk u x l [] y k s.0 s.1)

pub returns-clause-end : goal.returns-clause-end
returns-clause-end c = λ p d pk u x l y. (λ r. splits p d pk u x l [] y r, λ s. joins p d pk u x l [] y s.0 s.1)
