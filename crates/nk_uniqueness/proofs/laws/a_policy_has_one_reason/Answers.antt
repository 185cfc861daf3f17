use Rattle.nk_compile.proofs.Reasons.{one_reason}
use Rattle.nk_compile.proofs.ReasonByName.{one_refusal}
use Rattle.nk_uniqueness.proofs.laws.a_policy_has_one_reason.Goals as goal

pub returns-clause-policy : goal.returns-clause-policy
returns-clause-policy c = λ fields topo p r s h k. one_reason fields topo p r s h k

pub returns-clause-name : goal.returns-clause-name
returns-clause-name c = λ program other name r s same h k. one_refusal program other same name r s h k
