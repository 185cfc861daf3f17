use Rattle.std.proofs.Common.{◌∙◌}
use Rattle.nk_star.proofs.Lacks.{searched}
use Rattle.nk_star.proofs.differences.has.Goals as goal

pub returns : goal.returns
returns c = c.is_ok.ensures.value ∙ searched c.args.outs.now c.args.o.now c.binary_search.result c.requires c.binary_search.ensures.bound c.binary_search.ensures.position
