use Rattle.std.proofs.Common.{refl}
use Rattle.nk_flight.proofs.laws.a_worked_update.Goals as goal

pub returns-clause-whole : goal.returns-clause-whole
returns-clause-whole c = (refl, refl, refl, refl, refl, refl, refl, refl)

pub returns-clause-waits : goal.returns-clause-waits
returns-clause-waits c = (refl, refl, refl, refl, refl, refl, refl)
