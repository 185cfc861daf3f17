use Rattle.std.proofs.Common.{◌∙◌}
use Rattle.nk_topo.proofs.Gathers.{source_gathered}
use Rattle.nk_topo.proofs.builder.TopoBuilder.is_source.Goals as goal

pub returns : goal.returns
returns c = c.contains_key.ensures ∙ source_gathered _ c.self.inside.links.entries _ c.args.sw c.args.pt c.self.view_is
