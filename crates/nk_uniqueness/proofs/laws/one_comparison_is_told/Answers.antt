use Rattle.nk_uniqueness.proofs.Comparing.{one_told, one_told_for, one_compared, none_told}
use Rattle.nk_uniqueness.proofs.laws.one_comparison_is_told.Goals as goal

pub returns-clause-policies : goal.returns-clause-policies
returns-clause-policies c = λ fields p q a b table h k. one_told c.one_certificate_is_printed.ensures fields p q table a b h k

pub returns-clause-names : goal.returns-clause-names
returns-clause-names c = λ program other left right a b same table h k.
    one_told_for program other same left right c.one_certificate_is_printed.ensures table a b h k

pub returns-clause-answers : goal.returns-clause-answers
returns-clause-answers c = λ program other left right a b same table h k.
    one_compared program other same left right c.one_certificate_is_printed.ensures table a b h k

pub returns-clause-no_policy : goal.returns-clause-no_policy
returns-clause-no_policy c = λ program other left right a same h k. none_told program other same left right a h k
