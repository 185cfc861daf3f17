use Rattle.std.specs.Prelude.{[]}
use Rattle.nk_policy.proofs.Again.{again}
use Rattle.nk_policy.proofs.RestPositions.{rest_goes}
use Rattle.nk_policy.proofs.laws.next_step.Goals as goal

pub returns-clause-complete : goal.returns-clause-complete
returns-clause-complete c = λ p d k x y l v z.
    let g = again p d k in (λ r. g.splits_too x [] y l v z r, λ s. g.joins_too x [] y l v z s.0 s.1)

pub returns-clause-so_far : goal.returns-clause-so_far
returns-clause-so_far c = λ p d k x y l v z m.
    let g = rest_goes p d k in (λ r. g.pass x [] y l v z m r, λ s. g.go x [] y l v z m s.0 s.1)
