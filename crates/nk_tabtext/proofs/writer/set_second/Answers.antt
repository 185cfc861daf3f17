use Rattle.std.proofs.Common.{ap}
use Rattle.std.specs.Prelude.{slice_set}
use Rattle.std.specs.Fmt.{digits}
use Rattle.nk_tabtext.proofs.writer.set_second.Goals as goal

-- the digit is the byte at the place
pub returns-in-Some : goal.returns-in-Some
unfolding digits
returns-in-Some c = λ rest e. ap (λ l. slice_set l 7 50) e
