use Rattle.nk_notation_laws.proofs.WholeTexts.{in_twice}
use Rattle.nk_notation_laws.proofs.laws.in_is_idempotent.Goals as goal

pub returns : goal.returns
returns c = in_twice
