use Rattle.nk_tabgrammar.proofs.Telling.{tells_texts}
use Rattle.nk_tabgrammar.proofs.laws.states_tell_what_is_written.Goals as goal

pub returns : goal.returns
returns c = tells_texts
