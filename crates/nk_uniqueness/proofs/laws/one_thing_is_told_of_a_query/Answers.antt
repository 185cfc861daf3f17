use Rattle.nk_uniqueness.proofs.Asking.{one_told_of, one_told_of_named, one_asked, one_found_of_named}
use Rattle.nk_uniqueness.proofs.laws.one_thing_is_told_of_a_query.Goals as goal

pub returns-clause-question : goal.returns-clause-question
returns-clause-question c = λ fields x a b table h k. one_told_of c.one_certificate_is_printed.ensures fields x table a b h k

pub returns-clause-names : goal.returns-clause-names
returns-clause-names c = λ program other asked a b same table h k.
    one_told_of_named program other same c.one_certificate_is_printed.ensures table asked a b h k

pub returns-clause-answers : goal.returns-clause-answers
returns-clause-answers c = λ program other asked a b same table h k.
    one_asked program other same c.one_certificate_is_printed.ensures table asked a b h k

pub returns-clause-findings : goal.returns-clause-findings
returns-clause-findings c = λ program other asked d v w same h k.
    one_found_of_named program other same c.one_thing_is_found.ensures.at_most asked d v w h k
