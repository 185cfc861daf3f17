use Rattle.std.proofs.Common.{refl}
use Rattle.nk_prefix.proofs.laws.worked_blocks.Goals as goal

pub returns-clause-digits : goal.returns-clause-digits
returns-clause-digits c = (refl, refl, refl, refl, refl, refl, refl)

pub returns-clause-seven : goal.returns-clause-seven
returns-clause-seven c = (refl, refl, refl, refl)

pub returns-clause-nine : goal.returns-clause-nine
returns-clause-nine c = (refl, refl, refl, refl, refl)
