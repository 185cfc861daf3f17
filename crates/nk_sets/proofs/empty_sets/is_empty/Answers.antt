use Rattle.std.proofs.Common.{sym, ap, ◌∙◌}
use Rattle.nk_sets.specs.PacketSets.{has_some_out}
use Rattle.nk_sets.proofs.SetLemmas.{filled_in}
use Rattle.nk_sets.proofs.empty_sets.is_empty.Goals as goal

pub returns-clause-yes : goal.returns-clause-yes
returns-clause-yes c = λ e pk w. ap has_some_out (c.drops.ensures.yes e pk)

pub returns-clause-no : goal.returns-clause-no
returns-clause-no c = λ e. filled_in c.args.st.now c.args.s c.laws-laws.ensures.sound c.requires (sym c.drops.ensures.is ∙ e)
