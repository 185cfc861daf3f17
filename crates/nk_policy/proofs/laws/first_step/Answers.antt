use Rattle.std.specs.Prelude.{[]}
use Rattle.nk_policy.proofs.Splitting.{splits, joins}
use Rattle.nk_policy.proofs.Positions.{passes, goes_on}
use Rattle.nk_policy.proofs.laws.first_step.Goals as goal

pub returns-clause-complete : goal.returns-clause-complete
returns-clause-complete c = λ p d pk x l v y. (λ r. splits p d pk [] x l v y r, λ s. joins p d pk [] x l v y s.0 s.1)

pub returns-clause-so_far : goal.returns-clause-so_far
returns-clause-so_far c = λ p d pk x l v y k. (λ r. passes p d pk [] x l v y k r, λ s. goes_on p d pk [] x l v y k s.0 s.1)
