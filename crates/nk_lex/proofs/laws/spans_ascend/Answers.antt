use Rattle.nk_lex.proofs.Standing.{spans_ascend}
use Rattle.nk_lex.proofs.laws.spans_ascend.Goals as goal

pub returns : goal.returns
returns c = spans_ascend
