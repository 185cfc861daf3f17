use Rattle.nk_uniqueness.proofs.Comparing.{one_difference}
use Rattle.nk_check.proofs.OneAlone.{no_difference}
use Rattle.nk_uniqueness.proofs.laws.one_difference_is_least.Goals as goal

pub returns-clause-one : goal.returns-clause-one
returns-clause-one c = λ fields p q s t f g h k. one_difference fields p q s t f g h k

pub returns-clause-none : goal.returns-clause-none
returns-clause-none c = λ fields p q s f same h. no_difference fields p q s f same h.0
