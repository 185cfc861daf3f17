use Rattle.nk_policy.proofs.Again.{again}
use Rattle.nk_policy.proofs.RestPositions.{rest_goes}
use Rattle.nk_policy.proofs.laws.a_rest_splits.Goals as goal

pub returns-clause-complete : goal.returns-clause-complete
returns-clause-complete c = λ p d k pk u x l v y.
    let g = again p d k in (λ r. g.splits_too pk u x l v y r, λ s. g.joins_too pk u x l v y s.0 s.1)

pub returns-clause-so_far : goal.returns-clause-so_far
returns-clause-so_far c = λ p d k pk u x l v y m.
    let g = rest_goes p d k in (λ r. g.pass pk u x l v y m r, λ s. g.go pk u x l v y m s.0 s.1)
