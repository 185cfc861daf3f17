use Rattle.nk_virtual.proofs.OneAnswer.{one_reason, no_reason, one_physical}
use Rattle.nk_virtual.proofs.laws.one_thing_is_answered_of_a_name.Goals as goal

pub returns-clause-reasons : goal.returns-clause-reasons
returns-clause-reasons c = λ program other name r s same virtual h j. one_reason program other same name virtual.one_from r s h j

pub returns-clause-none : goal.returns-clause-none
returns-clause-none c = λ program other name q r same is h. no_reason program other same name q r is h

pub returns-clause-policies : goal.returns-clause-policies
returns-clause-policies c = λ program other name q s same is also. one_physical program other same name q s is also
