use Rattle.nk_tabtext.proofs.Stopping.{stops_with_texts}
use Rattle.nk_tabtext.proofs.laws.a_reader_stops_where_no_text_goes_on.Goals as goal

pub returns : goal.returns
returns c = stops_with_texts
