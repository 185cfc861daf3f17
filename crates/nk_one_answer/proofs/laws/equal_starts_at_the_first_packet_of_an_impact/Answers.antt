use Rattle.nk_one_answer.proofs.FirstKept.{first_kept, only_first, side_keeps}
use Rattle.nk_one_answer.proofs.OneImpact.{same_status, shows_first}
use Rattle.nk_one_answer.proofs.laws.equal_starts_at_the_first_packet_of_an_impact.Goals as goal

pub returns-clause-statuses : goal.returns-clause-statuses
returns-clause-statuses c = same_status

pub returns-clause-texts : goal.returns-clause-texts
returns-clause-texts c = shows_first

pub returns-clause-kept : goal.returns-clause-kept
returns-clause-kept c = λ fields p q left right k side f least. side_keeps fields p q left right k side f least.0

pub returns-clause-first : goal.returns-clause-first
returns-clause-first c = first_kept

pub returns-clause-only : goal.returns-clause-only
returns-clause-only c = only_first
