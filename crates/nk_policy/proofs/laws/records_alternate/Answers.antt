use Rattle.nk_policy.proofs.Parity.{odd_at, even_at, histories_even}
use Rattle.nk_policy.proofs.laws.records_alternate.Goals as goal

pub returns-clause-odd : goal.returns-clause-odd
returns-clause-odd c = λ p i d n pk u l e at. odd_at p i d n pk u l e at

pub returns-clause-even : goal.returns-clause-even
returns-clause-even c = λ p i d n pk u l e at. even_at p i d n pk u l e at

pub returns-clause-histories : goal.returns-clause-histories
returns-clause-histories c = λ p i d pk w z g. histories_even p i d pk w z g
