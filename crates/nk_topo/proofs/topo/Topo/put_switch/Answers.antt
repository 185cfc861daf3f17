use Rattle.std.proofs.Common.{ℕ, ◌<◌, sym, ◌∙◌, subst, ap, ◌≡◌}
use Rattle.std.specs.Prelude.{AllPairs, nat_lt, map, is_ok, if◌then◌else◌}
use Rattle.std.specs.List.{prefix_len, insert}
use Rattle.nk_topo.specs.Topology.{with_sorted}
use Rattle.nk_topo.specs.Inside.{IsInside, topology_with}
use Rattle.nk_topo.proofs.Insides.{numbers_rise, inside_with_switch}
use Rattle.nk_topo.proofs.topo.Topo.put_switch.Goals as goal
use Rattle.nk_topo.proofs.topo.Topo.put_switch.Goals.{After-unwrap}

pub place_in-place-requires : goal.place_in-place-requires
place_in-place-requires c =
    subst (λ ns. AllPairs {X = ℕ} (λ p q. p < q) ns) (sym c.as_slice.ensures.value) (numbers_rise _ _ _ c.self.invariant.inside)

-- the new parts, and the topology that they make
put : (c : After-unwrap) →
    IsInside c.insert-2.new.self.items (map (λ p. p.items) c.insert.new.self.items) c.self.inside.links.items
    × (topology_with c.insert-2.new.self.items (map (λ p. p.items) c.insert.new.self.items) c.self.inside.links.items
    ≡ with_sorted c.args.self.now c.args.n c.args.ports.items)
put c =
    inside_with_switch (λ p. p.items) c.self.inside.numbers.items c.insert-2.new.self.items c.self.inside.ports.items c.insert.new.self.items
    c.self.inside.links.items c.args.self.now c.place_in-place.result c.args.n c.args.ports c.self.invariant.inside c.self.view_is
    (c.place_in-place.ensures.place ∙ ap (λ l. prefix_len (λ m. nat_lt m c.args.n) l) c.as_slice.ensures.value)
    (c.insert-2.ensures.items
    ∙ ap (λ r. if is_ok r then insert c.reserve.new.self.items c.place_in-place.result c.args.n else c.reserve.new.self.items) c.unwrap.ensures
    ∙ ap (λ l. insert l c.place_in-place.result c.args.n) c.in_ok-reserve.ensures.items)
    c.in_ok-insert.ensures.items c.requires.new c.requires.ascend

pub invariant_of-self-2 : goal.invariant_of-self-2
invariant_of-self-2 c = record { inside = (put c).0; targets = c.self.invariant.targets }

pub returns-clause-ok : goal.returns-clause-ok
returns-clause-ok c = (put c).1
