use Rattle.nk_cert.proofs.CertRows.{both_stand, goal_is_one_sided}
use Rattle.nk_check.proofs.laws.automata_of_both_stand.Goals as goal

pub returns-clause-stands : goal.returns-clause-stands
returns-clause-stands c = λ fields st new states left right p q a g tidy. both_stand fields st new states left right p q a g tidy

pub returns-clause-goal : goal.returns-clause-goal
returns-clause-goal c = λ first made old states left right bound ends ids count begun grown sided.
    goal_is_one_sided first made old states left right bound ends ids count begun grown sided
