use Rattle.nk_group.proofs.Choice.{groups_keep_the_choice as the_law}
use Rattle.nk_group.proofs.laws.groups_keep_the_choice.Goals as goal

pub returns : goal.returns
returns c = the_law
