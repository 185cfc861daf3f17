use Rattle.std.proofs.Common.{ℕ, ◌<◌, sym, ap, subst, ◌∙◌, None, Some}
use Rattle.std.specs.Prelude.{AllPairs, is_some, ◌==◌}
use Rattle.std.specs.List.{list_any}
use Rattle.nk_topo.proofs.Insides.{found_any}
use Rattle.nk_topo.proofs.Gathers.{ports_gathered}
use Rattle.nk_topo.proofs.builder.TopoBuilder.is_port.Goals as goal

pub find_in-requires : goal.find_in-requires
find_in-requires c =
    subst (λ ns. AllPairs {X = ℕ} (λ p q. p < q) ns) (sym c.as_slice.ensures.value)
    (ports_gathered (λ p. p.items) c.self.inside.switches.entries c.self.inside.links.entries c.args.self.now c.args.sw (Some c.in-Some.ports.now)
    c.self.invariant.topology c.self.view_is c.in-Some.ensures.value).ascend

pub returns-in-Some : goal.returns-in-Some
returns-in-Some c =
    c.is_some.ensures ∙ ap is_some c.find_in.ensures.place
    ∙ found_any (λ p. p == c.args.pt) c.as_slice.result.now
    ∙ ap (list_any (λ p. p == c.args.pt)) c.as_slice.ensures.value
    ∙ sym ((ports_gathered (λ p. p.items) c.self.inside.switches.entries c.self.inside.links.entries c.args.self.now c.args.sw (Some c.in-Some.ports.now)
    c.self.invariant.topology c.self.view_is c.in-Some.ensures.value).each c.args.pt)

pub returns-in-None : goal.returns-in-None
returns-in-None c =
    sym ((ports_gathered (λ p. p.items) c.self.inside.switches.entries c.self.inside.links.entries c.args.self.now c.args.sw None
    c.self.invariant.topology c.self.view_is c.in-None.ensures.value).each c.args.pt)
