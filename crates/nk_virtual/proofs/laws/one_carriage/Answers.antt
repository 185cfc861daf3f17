use Rattle.nk_virtual.proofs.OneCarriage.{one_off_target, one_not_carried, none_off_target, carried_not_off, carried_has_all}
use Rattle.nk_virtual.proofs.laws.one_carriage.Goals as goal

pub returns-clause-off_target : goal.returns-clause-off_target
returns-clause-off_target c = λ fields k f g h j. one_off_target fields k f g h j

pub returns-clause-not_carried : goal.returns-clause-not_carried
returns-clause-not_carried c = λ fields k x y h j. one_not_carried fields k x y h j

pub returns-clause-on_target : goal.returns-clause-on_target
returns-clause-on_target c = λ fields k h f o. none_off_target fields k h f o

pub returns-clause-carried : goal.returns-clause-carried
returns-clause-carried c = λ fields k h. (λ f o. carried_not_off fields k h f o, λ x n. carried_has_all fields k h x n)
