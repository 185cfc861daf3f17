use Rattle.nk_notation_laws.proofs.PrintedRefusals.{virtual_refusals_left}
use Rattle.nk_notation_laws.proofs.laws.virtual_refusals_are_left.Goals as goal

pub returns : goal.returns
returns c = virtual_refusals_left
