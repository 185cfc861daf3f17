use Rattle.std.proofs.Common.{◌∙◌}
use Rattle.nk_topo.proofs.Gathers.{target_gathered}
use Rattle.nk_topo.proofs.builder.TopoBuilder.is_target.Goals as goal

pub returns : goal.returns
returns c =
    c.contains.ensures
    ∙ c.self.invariant.targets c.args.sw c.args.pt
    ∙ target_gathered _ c.self.inside.links.entries _ c.args.sw c.args.pt c.self.view_is
