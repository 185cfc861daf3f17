use Rattle.nk_compile.proofs.PairReasonByName.{one_pair_refusal}
use Rattle.nk_uniqueness.proofs.Pairs.{one_pair, never_both, one_pair_answer, fitting_answer, refused_pair_answer}
use Rattle.nk_uniqueness.proofs.laws.compiling_a_pair_has_one_answer.Goals as goal

pub returns-clause-tables : goal.returns-clause-tables
returns-clause-tables c = λ program other old new a b same there h k. one_pair program other same old new a b there h k

pub returns-clause-compiled : goal.returns-clause-compiled
returns-clause-compiled c = λ program other old new a r same h k. never_both program other same old new a r h k

pub returns-clause-refused : goal.returns-clause-refused
returns-clause-refused c = λ program other old new r s same h k. one_pair_refusal program other same old new r s h k

pub returns-clause-one : goal.returns-clause-one
returns-clause-one c = λ program other old new a b same there h k. one_pair_answer program other same old new a b there h k

pub returns-clause-accepted : goal.returns-clause-accepted
returns-clause-accepted c = λ program other old new p q a same e f k l fit h. fitting_answer program other same old new p q a e f k l fit h

pub returns-clause-refused_alone : goal.returns-clause-refused_alone
returns-clause-refused_alone c = λ program other old new r a same k h. refused_pair_answer program other same old new r a k h
