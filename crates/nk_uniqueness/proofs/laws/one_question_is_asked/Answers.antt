use Rattle.nk_query.proofs.OneQuestion.{one_question, no_cause}
use Rattle.nk_uniqueness.proofs.Asking.{one_cause}
use Rattle.nk_uniqueness.proofs.laws.one_question_is_asked.Goals as goal

pub returns-clause-question : goal.returns-clause-question
returns-clause-question c = λ program other asked x y same h k. one_question program other same asked x y h k

pub returns-clause-no_cause : goal.returns-clause-no_cause
returns-clause-no_cause c = λ program other asked x cause same h k. no_cause program other same asked x cause h k

pub returns-clause-one_cause : goal.returns-clause-one_cause
returns-clause-one_cause c = λ program other asked a b same h k. one_cause program other same asked a b h k
