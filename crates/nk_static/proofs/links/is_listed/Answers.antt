use Rattle.std.proofs.Common.{◌∙◌}
use Rattle.nk_static.proofs.Listed.{listed_is}
use Rattle.nk_static.proofs.links.is_listed.Goals as goal

pub returns : goal.returns
returns c = c.contains.ensures ∙ listed_is c.args.from.0 c.args.from.1 c.args.to.0 c.args.to.1 c.args.listed.now.keys
