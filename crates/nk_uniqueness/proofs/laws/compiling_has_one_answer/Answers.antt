use Rattle.nk_uniqueness.proofs.Answering.{accepted_answer, refused_answer, one_answer}
use Rattle.nk_uniqueness.proofs.laws.compiling_has_one_answer.Goals as goal

pub returns-clause-accepted : goal.returns-clause-accepted
returns-clause-accepted c = λ program other name a same accepted h. accepted_answer program other same name a accepted h

pub returns-clause-refused : goal.returns-clause-refused
returns-clause-refused c = λ program other name r a same refused h. refused_answer program other same name r a refused h

pub returns-clause-one : goal.returns-clause-one
returns-clause-one c = λ program other name a b same there h k. one_answer program other same name a b there h k
