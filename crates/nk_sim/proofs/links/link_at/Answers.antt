use Rattle.std.proofs.Common.{sym}
use Rattle.nk_sim.proofs.Ports.{no_link}
use Rattle.nk_sim.proofs.links.link_at.Goals as goal

pub returns-in-None : goal.returns-in-None
returns-in-None c = sym (no_link c.args.topo.now _ _ c.links-links.ensures.is c.in-None.ensures)
