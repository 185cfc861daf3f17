use Rattle.nk_lex.proofs.Named.{names_are_names}
use Rattle.nk_lex.proofs.laws.a_name_is_one.Goals as goal

pub returns : goal.returns
returns c = names_are_names
