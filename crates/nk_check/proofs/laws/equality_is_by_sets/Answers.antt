use Rattle.nk_cert.proofs.Together.{agree_from, same_from, have_sets, same_exactly}
use Rattle.nk_check.proofs.laws.equality_is_by_sets.Goals as goal

pub returns-clause-members : goal.returns-clause-members
returns-clause-members c = λ fields p q sides same. agree_from p q sides fields same

pub returns-clause-histories : goal.returns-clause-histories
returns-clause-histories c = λ fields p q sides sets agree. same_from p q sides fields sets agree

pub returns-clause-sets : goal.returns-clause-sets
returns-clause-sets c = λ fields st states left right p q a. have_sets fields st states left right p q a

pub returns-clause-exactly : goal.returns-clause-exactly
returns-clause-exactly c = λ fields st states left right p q a. same_exactly fields st states left right p q a
