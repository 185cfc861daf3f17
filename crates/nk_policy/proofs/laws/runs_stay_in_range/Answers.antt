use Rattle.nk_policy.proofs.InRange.{ways_keep, records_keep, after_in_range}
use Rattle.nk_policy.proofs.LabelSteps.{gives_is_runs}
use Rattle.nk_policy.proofs.laws.runs_stay_in_range.Goals as goal

pub returns-clause-ends : goal.returns-clause-ends
returns-clause-ends c = λ fields p q pk w y g h. let r = (gives_is_runs p pk w y).0 g in ways_keep fields p q pk r.0 y r.2 h

pub returns-clause-records : goal.returns-clause-records
returns-clause-records c = λ fields p q pk u x l r h. records_keep fields p q pk u x l r h

pub returns-clause-rest : goal.returns-clause-rest
returns-clause-rest c = λ fields p q k. after_in_range fields p k q
