use Rattle.nk_grammar.proofs.Together.{stays}
use Rattle.nk_grammar.proofs.laws.a_program_stays_in_front_of_its_certificate.Goals as goal

pub returns : goal.returns
returns c = stays
