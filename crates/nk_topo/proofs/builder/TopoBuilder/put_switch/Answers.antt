use Rattle.nk_topo.proofs.Gathers.{gathered_with_switch}
use Rattle.nk_topo.proofs.builder.TopoBuilder.put_switch.Goals as goal

pub invariant_of-self-2 : goal.invariant_of-self-2
invariant_of-self-2 c =
    (gathered_with_switch (λ p. p.items) c.self.inside.switches.entries c.insert.new.self.entries c.self.inside.links.entries c.self.inside.targets.keys
    c.args.self.now c.args.n c.args.ports c.self.invariant c.self.view_is c.in_ok-insert.ensures.entries c.requires.new c.requires.ascend).0

pub returns-clause-ok : goal.returns-clause-ok
returns-clause-ok c =
    (gathered_with_switch (λ p. p.items) c.self.inside.switches.entries c.insert.new.self.entries c.self.inside.links.entries c.self.inside.targets.keys
    c.args.self.now c.args.n c.args.ports c.self.invariant c.self.view_is c.in_ok-insert.ensures.entries c.requires.new c.requires.ascend).1
