use Rattle.std.proofs.Common.{◌∙◌, ap, sym, subst}
use Rattle.std.specs.Prelude.{slice_index}
use Rattle.nk_topo.specs.Topology.{is_port}
use Rattle.nk_sim.specs.Emitted.{ArePlaceNumbers}
use Rattle.nk_sim.proofs.Ports.{no_port, no_switch}
use Rattle.nk_sim.proofs.links.numbers_at.Goals as goal

pub returns-in-None-place : goal.returns-in-None-place
returns-in-None-place c =
    let t = c.args.topo.now in
    let pt = slice_index c.args.p.now 1 in
    ap (λ s. is_port t s pt) (sym c.in-Some.ensures) ∙ c.ports.ensures.each pt ∙ no_port c.ports.result.now pt c.in-None-place.ensures c.are_numbers-in-Some.ensures

pub returns-in-None : goal.returns-in-None
returns-in-None c =
    no_switch c.args.topo.now.switches _ _ c.in-None.ensures (subst ArePlaceNumbers c.switches.ensures.numbers c.are_numbers.ensures)
