use Rattle.nk_schedules.proofs.Updated.{each_by_policy, none_but_its_policy, one_copy}
use Rattle.nk_schedules.proofs.laws.each_packet_keeps_to_one_policy.Goals as goal

pub returns-clause-each : goal.returns-clause-each
returns-clause-each c = λ program old new r both es i k pk v enter e start is. each_by_policy program old new r both es i k pk v enter e start is

pub returns-clause-left : goal.returns-clause-left
returns-clause-left c = λ program old new r both es i pk v enter e start is. none_but_its_policy program old new r both es i pk v enter e start is

pub returns-clause-unstepped : goal.returns-clause-unstepped
returns-clause-unstepped c = λ program old new r both es i pk enter e is. one_copy program old new r both es i pk enter e is
