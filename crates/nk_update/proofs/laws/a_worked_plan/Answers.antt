use Rattle.std.proofs.Common.{refl}
use Rattle.nk_update.proofs.Conditions.{grouped_is_plannable}
use Rattle.nk_update.proofs.laws.a_worked_plan.Goals as goal

pub returns-clause-groups : goal.returns-clause-groups
returns-clause-groups c = refl

pub returns-clause-plannable : goal.returns-clause-plannable
returns-clause-plannable c = grouped_is_plannable
