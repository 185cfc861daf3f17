use Rattle.nk_grammar.proofs.Together.{together}
use Rattle.nk_grammar.proofs.laws.a_program_and_a_certificate_are_read_together.Goals as goal

pub returns : goal.returns
returns c = together c.texts_are_joined.ensures
