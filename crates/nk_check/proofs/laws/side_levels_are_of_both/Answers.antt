use Rattle.nk_cert.proofs.Sided.{levels_of_policies}
use Rattle.nk_check.proofs.laws.side_levels_are_of_both.Goals as goal

pub returns : goal.returns
returns c = λ fields p q states left right bound first new ss ends ls broken a is lv.
    levels_of_policies fields first states left right bound p q a is new ss ends ls broken lv
