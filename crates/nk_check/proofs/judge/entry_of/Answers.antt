use Rattle.std.proofs.Common.{◌∙◌}
use Rattle.nk_sets.proofs.Kept.{get_or_same}
use Rattle.nk_check.proofs.judge.entry_of.Goals as goal

pub returns : goal.returns
returns c = c.at.ensures ∙ get_or_same c.args.judge.now.entries c.args.i c.at.result.now (0, 0) c.requires
