use Rattle.std.proofs.Common.{refl}
use Rattle.nk_table.proofs.laws.worked_tables.Goals as goal

pub returns-clause-crossing : goal.returns-clause-crossing
returns-clause-crossing c = (refl, refl, refl)

pub returns-clause-ties : goal.returns-clause-ties
returns-clause-ties c = (refl, refl, refl, refl, refl)

pub returns-clause-exits : goal.returns-clause-exits
returns-clause-exits c = (refl, refl, refl, refl, refl)

pub returns-clause-groups : goal.returns-clause-groups
returns-clause-groups c = (refl, refl, refl, refl)

pub returns-clause-prefixes : goal.returns-clause-prefixes
returns-clause-prefixes c = (refl, refl, refl, refl, refl, refl)
