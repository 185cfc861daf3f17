use Rattle.nk_compile.proofs.PairReasons.{no_pair_reason}
use Rattle.nk_compile.proofs.PairReasonByName.{fitting_never_refused}
use Rattle.nk_compile.proofs.laws.fitting_policies_are_not_refused.Goals as goal

pub returns-clause-policies : goal.returns-clause-policies
returns-clause-policies c = λ program p q r a b fit h. no_pair_reason program.fields program.topo p q r a.0 a.1 b.0 b.1 fit h

pub returns-clause-names : goal.returns-clause-names
returns-clause-names c = λ program other old new p q r same e f a b fit h. fitting_never_refused program other same old new p q r e f a b fit h
