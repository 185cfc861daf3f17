use Rattle.nk_tabgrammar.proofs.Following.{follows}
use Rattle.nk_tabgrammar.proofs.laws.states_follow_the_grammar.Goals as goal

pub returns : goal.returns
returns c = follows
