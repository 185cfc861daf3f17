use Rattle.nk_notation_laws.proofs.PrintedRefusals.{refusals_left}
use Rattle.nk_notation_laws.proofs.laws.refusals_are_left.Goals as goal

pub returns : goal.returns
returns c = refusals_left
