use Rattle.std.proofs.Common.{ap, ◌∙◌}
use Rattle.std.specs.Prelude.{is_some}
use Rattle.nk_topo.specs.Topology.{link_from}
use Rattle.nk_names.specs.ProgramOf.{virtual_topology}
use Rattle.nk_names.proofs.Fabrics.{source_there}
use Rattle.nk_names.proofs.virtuals.Virtuals.is_source.Goals as goal

pub returns : goal.returns
returns c = λ topo.
    c.contains.ensures
    ∙ c.self.invariant.sources c.args.sw c.args.pt
    ∙ source_there topo c.self.inside.links.items c.args.sw c.args.pt
    ∙ ap (λ links. is_some (link_from (virtual_topology topo links) c.args.sw c.args.pt)) c.self.view_is
