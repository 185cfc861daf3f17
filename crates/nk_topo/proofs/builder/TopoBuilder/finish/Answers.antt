use Rattle.std.proofs.Common.{map}
use Rattle.nk_topo.proofs.Gathers.{held_from}
use Rattle.nk_topo.proofs.builder.TopoBuilder.finish.Goals as goal

pub invariant_of-result : goal.invariant_of-result
invariant_of-result c =
    (held_from (λ p. p.items) c.self.inside.switches.entries c.self.inside.links.entries c.self.inside.targets.keys c.args.self
    c.in_ok-numbers.numbers.items (map (λ p. p.items) c.in_ok-numbers.ports.items) c.in_ok-links.links.items
    c.self.invariant c.self.view_is c.in_ok-numbers.ensures.numbers c.in_ok-numbers.ensures.ports c.in_ok-links.ensures).0

pub returns : goal.returns
returns c =
    (held_from (λ p. p.items) c.self.inside.switches.entries c.self.inside.links.entries c.self.inside.targets.keys c.args.self
    c.in_ok-numbers.numbers.items (map (λ p. p.items) c.in_ok-numbers.ports.items) c.in_ok-links.links.items
    c.self.invariant c.self.view_is c.in_ok-numbers.ensures.numbers c.in_ok-numbers.ensures.ports c.in_ok-links.ensures).1
