use Rattle.nk_compile.proofs.CompileErrors.{static_refusal_named}
use Rattle.nk_uniqueness.proofs.OfPolicies.{accepted_policy_answer, refused_policy_answer, one_policy_answer, policy_answer_named}
use Rattle.nk_uniqueness.proofs.laws.compiling_a_policy_has_one_answer.Goals as goal

pub returns-clause-accepted : goal.returns-clause-accepted
returns-clause-accepted c = λ program p a accepted h. accepted_policy_answer program p a accepted h

pub returns-clause-refused : goal.returns-clause-refused
returns-clause-refused c = λ program p r a reason h. refused_policy_answer program p r a reason h

pub returns-clause-one : goal.returns-clause-one
returns-clause-one c = λ program other p a b same_fields same_topo there h k. one_policy_answer program other p a b same_fields same_topo there h k

pub returns-clause-unnamed : goal.returns-clause-unnamed
returns-clause-unnamed c = λ fields topo p h. static_refusal_named fields.tag topo p h

pub returns-clause-named : goal.returns-clause-named
returns-clause-named c = λ program name p a named h. policy_answer_named program name p a named h
