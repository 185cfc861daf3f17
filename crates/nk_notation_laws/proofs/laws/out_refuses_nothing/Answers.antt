use Rattle.nk_notation_laws.proofs.WholeTexts.{out_refuses}
use Rattle.nk_notation_laws.proofs.laws.out_refuses_nothing.Goals as goal

pub returns : goal.returns
returns c = out_refuses
