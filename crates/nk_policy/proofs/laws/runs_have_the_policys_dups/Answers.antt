use Rattle.nk_policy.proofs.DupsOfRuns.{run_dups, front_dups, rest_dups}
use Rattle.nk_policy.proofs.laws.runs_have_the_policys_dups.Goals as goal

pub returns-clause-complete : goal.returns-clause-complete
returns-clause-complete c = λ p pk v y r. run_dups p pk v y r

pub returns-clause-so_far : goal.returns-clause-so_far
returns-clause-so_far c = λ p pk u x l r. front_dups p pk u x l r

pub returns-clause-rest : goal.returns-clause-rest
returns-clause-rest c = λ p k l h. rest_dups p k l h
