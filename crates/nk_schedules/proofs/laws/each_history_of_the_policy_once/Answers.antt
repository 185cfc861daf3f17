use Rattle.nk_schedules.proofs.Carried.{each_once_of, no_other}
use Rattle.nk_schedules.proofs.laws.each_history_of_the_policy_once.Goals as goal

pub returns-clause-each : goal.returns-clause-each
returns-clause-each c = λ program p t es i k pk carries e start. each_once_of program p t es i k pk carries e start

pub returns-clause-left : goal.returns-clause-left
returns-clause-left c = λ program p t es i pk carries e start. no_other program p t es i pk carries e start
