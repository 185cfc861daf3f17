use Rattle.nk_tabgrammar.proofs.Answering.{answers}
use Rattle.nk_tabgrammar.proofs.laws.texts_are_answered.Goals as goal

pub returns : goal.returns
returns c = answers
