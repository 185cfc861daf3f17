use Rattle.nk_notation_laws.proofs.GeneratedPrograms.{programs_left}
use Rattle.nk_notation_laws.proofs.laws.printed_programs_are_left.Goals as goal

pub returns : goal.returns
returns c = programs_left
