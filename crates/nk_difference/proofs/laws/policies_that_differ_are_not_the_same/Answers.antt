use Rattle.nk_difference.proofs.BothSides.{some_alone, not_same}
use Rattle.nk_difference.proofs.laws.policies_that_differ_are_not_the_same.Goals as goal

pub returns-clause-unequal : goal.returns-clause-unequal
returns-clause-unequal c = λ fields p q a b k same. not_same fields p q k.some same

pub returns-clause-one_alone : goal.returns-clause-one_alone
returns-clause-one_alone c = λ fields p q a b k. some_alone fields p q k.some
