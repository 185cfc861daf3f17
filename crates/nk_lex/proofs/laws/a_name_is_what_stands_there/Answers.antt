use Rattle.nk_lex.proofs.Standing.{names_are_slices}
use Rattle.nk_lex.proofs.laws.a_name_is_what_stands_there.Goals as goal

pub returns : goal.returns
returns c = names_are_slices
