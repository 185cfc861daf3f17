use Rattle.nk_cert.proofs.Breaking.{left_breaks, right_breaks, no_other_breaks, least_difference}
use Rattle.nk_check.proofs.laws.histories_of_one_side_break.Goals as goal

pub returns-clause-left : goal.returns-clause-left
returns-clause-left c = λ fields st states left right p q a bad sided start f.
    left_breaks fields st states left right p q a bad sided start f

pub returns-clause-right : goal.returns-clause-right
returns-clause-right c = λ fields st states left right p q a bad sided start f.
    right_breaks fields st states left right p q a bad sided start f

pub returns-clause-no_other : goal.returns-clause-no_other
returns-clause-no_other c = λ fields st states left right p q a bad sided start t f b.
    no_other_breaks fields st states left right p q a bad sided start t f b

pub returns-clause-least : goal.returns-clause-least
returns-clause-least c = λ fields st states left right p q a bad sided start each side f b least.
    least_difference fields st states left right p q a bad sided start each side f b least
