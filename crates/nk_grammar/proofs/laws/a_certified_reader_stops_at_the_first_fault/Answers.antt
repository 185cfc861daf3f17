use Rattle.nk_grammar.proofs.Stopping.{stops_with_texts}
use Rattle.nk_grammar.proofs.laws.a_certified_reader_stops_at_the_first_fault.Goals as goal

pub returns : goal.returns
returns c = stops_with_texts
