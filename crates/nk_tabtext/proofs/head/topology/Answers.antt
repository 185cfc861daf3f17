use Rattle.std.proofs.Common.{◌≡◌, subst}
use Rattle.std.specs.Prelude.{OnOk}
use Rattle.nk_tabtext.proofs.Heads.{topology_lines}
use Rattle.nk_tabtext.proofs.head.topology.Goals as goal

pub returns : goal.returns
returns c =
    subst (λ l. OnOk c.links-2.result (c.links-2.new.out.items ≡ l))
    (topology_lines c.args.topo.now c.args.out.now.items c.switches.new.out.items c.links.result.now c.in_ok-switches.ensures c.links.ensures.links)
    c.links-2.ensures
