use Rattle.nk_check.proofs.Worked.{small_is_one, short_fails}
use Rattle.nk_check.proofs.laws.worked_certificates.Goals as goal

pub returns-clause-is_one : goal.returns-clause-is_one
returns-clause-is_one c = λ fields. small_is_one fields

pub returns-clause-fails : goal.returns-clause-fails
returns-clause-fails c = λ fields pk ok. short_fails fields pk ok
