use Rattle.std.proofs.Common.{rules}
use Rattle.nk_grammar.proofs.Trees.{others}
use Rattle.nk_grammar.proofs.build.take_alone.Goals as goal

pub returns-else-len-eq1-clause-others : goal.returns-else-len-eq1-clause-others
returns-else-len-eq1-clause-others c = λ none. others c.args.items.now.items (λ e. search (rules, e))
