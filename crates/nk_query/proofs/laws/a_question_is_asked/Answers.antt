use Rattle.nk_query.proofs.Beside.{question_breaks}
use Rattle.nk_query.proofs.laws.a_question_is_asked.Goals as goal

pub returns : goal.returns
returns c = λ x predicates pk w last. question_breaks x predicates pk w last
