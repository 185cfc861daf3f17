use Rattle.nk_uniqueness.proofs.Comparing.{one_found_for, none_found}
use Rattle.nk_uniqueness.proofs.laws.one_finding_is_told.Goals as goal

pub returns-clause-names : goal.returns-clause-names
returns-clause-names c = λ program other left right d v w same h k.
    one_found_for program other same left right c.one_thing_is_found.ensures.at_most d v w h k

pub returns-clause-no_policy : goal.returns-clause-no_policy
returns-clause-no_policy c = λ program other left right d v same h k. none_found program other same left right d v h k
