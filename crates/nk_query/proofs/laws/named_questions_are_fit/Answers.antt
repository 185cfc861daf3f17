use Rattle.nk_query.proofs.Named.{named_fit}
use Rattle.nk_query.proofs.laws.named_questions_are_fit.Goals as goal

pub returns : goal.returns
returns c = λ program asked x ok is. named_fit program asked x ok is.names is.can
