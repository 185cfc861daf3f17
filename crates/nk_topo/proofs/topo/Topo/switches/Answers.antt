use Rattle.std.proofs.Common.{sym, ◌∙◌, ap}
use Rattle.nk_topo.specs.Topology.{numbers_of}
use Rattle.nk_topo.proofs.Insides.{numbers_are}
use Rattle.nk_topo.proofs.topo.Topo.switches.Goals as goal

pub returns-clause-numbers : goal.returns-clause-numbers
returns-clause-numbers c =
    c.as_slice.ensures.value ∙ sym (numbers_are _ _ c.self.invariant.inside.paired) ∙ ap numbers_of c.self.view_is
