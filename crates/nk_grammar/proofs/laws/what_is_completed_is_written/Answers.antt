use Rattle.nk_grammar.proofs.Completing.{completes_written}
use Rattle.nk_grammar.proofs.laws.what_is_completed_is_written.Goals as goal

pub returns : goal.returns
returns c = completes_written
