use Rattle.nk_notation_laws.proofs.WholeTexts.{gives_back}
use Rattle.nk_notation_laws.proofs.laws.in_gives_back.Goals as goal

pub returns : goal.returns
returns c = gives_back
