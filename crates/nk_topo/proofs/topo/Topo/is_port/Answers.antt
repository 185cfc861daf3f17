use Rattle.std.proofs.Common.{sym, ◌∙◌, ap}
use Rattle.std.specs.Prelude.{is_some, ◌==◌}
use Rattle.nk_topo.proofs.Insides.{found_any}
use Rattle.nk_topo.proofs.topo.Topo.is_port.Goals as goal

pub returns : goal.returns
returns c =
    c.is_some.ensures ∙ ap is_some c.find_in.ensures.place ∙ found_any (λ p. p == c.args.pt) c.ports.result.now
    ∙ sym (c.ports.ensures.each c.args.pt)
