use Rattle.nk_tabgrammar.proofs.Answering.{unique}
use Rattle.nk_tabgrammar.proofs.laws.a_text_has_one_reading.Goals as goal

pub returns : goal.returns
returns c = unique
