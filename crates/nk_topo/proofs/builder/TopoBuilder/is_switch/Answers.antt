use Rattle.std.proofs.Common.{◌∙◌}
use Rattle.nk_topo.proofs.Gathers.{switch_gathered}
use Rattle.nk_topo.proofs.builder.TopoBuilder.is_switch.Goals as goal

pub returns : goal.returns
returns c =
    c.contains_key.ensures ∙ switch_gathered (λ p. p.items) c.self.inside.switches.entries c.self.inside.links.entries c.args.self.now c.args.n c.self.view_is
