use Rattle.std.proofs.Common.{ap, ◌∙◌}
use Rattle.nk_topo.specs.Topology.{is_target}
use Rattle.nk_names.specs.ProgramOf.{virtual_topology}
use Rattle.nk_names.proofs.Fabrics.{target_there}
use Rattle.nk_names.proofs.virtuals.Virtuals.is_target.Goals as goal

pub returns : goal.returns
returns c = λ topo.
    c.contains.ensures
    ∙ c.self.invariant.targets c.args.sw c.args.pt
    ∙ target_there topo c.self.inside.links.items c.args.sw c.args.pt
    ∙ ap (λ links. is_target (virtual_topology topo links) c.args.sw c.args.pt) c.self.view_is
