use Rattle.nk_schedules.proofs.Drawn.{each_by_policy_drawn, none_but_its_policy_drawn, one_copy_drawn}
use Rattle.nk_schedules.proofs.laws.a_drawn_update_keeps_to_one_policy.Goals as goal

pub returns-clause-each : goal.returns-clause-each
returns-clause-each c = λ program old new r both seed turns i k pk v start e is. each_by_policy_drawn program old new r both seed turns i k pk v start e is

pub returns-clause-left : goal.returns-clause-left
returns-clause-left c = λ program old new r both seed turns i pk v start e is. none_but_its_policy_drawn program old new r both seed turns i pk v start e is

pub returns-clause-unstepped : goal.returns-clause-unstepped
returns-clause-unstepped c = λ program old new r both seed turns i pk start e is. one_copy_drawn program old new r both seed turns i pk start e is
