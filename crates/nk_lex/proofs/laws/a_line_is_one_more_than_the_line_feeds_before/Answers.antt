use Rattle.nk_lex.proofs.Standing.{lines_count}
use Rattle.nk_lex.proofs.laws.a_line_is_one_more_than_the_line_feeds_before.Goals as goal

pub returns : goal.returns
returns c = lines_count
