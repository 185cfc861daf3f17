use Rattle.nk_compile.proofs.Reasons.{no_reason}
use Rattle.nk_compile.proofs.ReasonByName.{never_refused}
use Rattle.nk_uniqueness.proofs.laws.accepted_policies_have_no_reason.Goals as goal

pub returns-clause-policy : goal.returns-clause-policy
returns-clause-policy c = λ program p r a h. no_reason program.fields program.topo p r a.0 a.1 h

pub returns-clause-name : goal.returns-clause-name
returns-clause-name c = λ program other name r same a h. never_refused program other same name r a h
