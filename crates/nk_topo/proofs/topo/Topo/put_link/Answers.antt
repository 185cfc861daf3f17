use Rattle.std.proofs.Common.{◌∙◌, ap, ◌≡◌}
use Rattle.std.specs.Prelude.{map, is_ok, if◌then◌else◌}
use Rattle.std.specs.List.{prefix_len, insert}
use Rattle.nk_topo.specs.Topology.{with_link, starts_below}
use Rattle.nk_topo.specs.Inside.{IsInside, topology_with, link_of}
use Rattle.nk_topo.proofs.Insides.{inside_with_link, targets_with}
use Rattle.nk_topo.proofs.topo.Topo.put_link.Goals as goal
use Rattle.nk_topo.proofs.topo.Topo.put_link.Goals.{After-unwrap}

-- the links are those before and the new one in its place
more : (c : After-unwrap) → c.insert-2.new.self.items ≡ insert c.self.inside.links.items c.link_place-place.result c.args.link
more c =
    c.insert-2.ensures.items
    ∙ ap (λ r. if is_ok r then insert c.reserve.new.self.items c.link_place-place.result c.args.link else c.reserve.new.self.items) c.unwrap.ensures
    ∙ ap (λ l. insert l c.link_place-place.result c.args.link) c.in_ok-reserve.ensures.items

-- the new links, and the topology that they make
put : (c : After-unwrap) →
    IsInside c.self.inside.numbers.items (map (λ p. p.items) c.self.inside.ports.items) c.insert-2.new.self.items
    × (topology_with c.self.inside.numbers.items (map (λ p. p.items) c.self.inside.ports.items) c.insert-2.new.self.items
    ≡ with_link c.args.self.now (link_of c.args.link))
put c =
    inside_with_link c.self.inside.numbers.items (map (λ p. p.items) c.self.inside.ports.items) c.self.inside.links.items c.insert-2.new.self.items
    c.args.self.now c.link_place-place.result c.args.link c.self.invariant.inside c.self.view_is
    (c.link_place-place.ensures.place ∙ ap (λ l. prefix_len (starts_below c.args.link.0 c.args.link.1) (map link_of l)) c.as_slice.ensures.value)
    (more c) c.requires.source c.requires.target c.requires.one_from c.requires.one_to

pub invariant_of-self-2 : goal.invariant_of-self-2
invariant_of-self-2 c = record {
  inside = (put c).0;
  targets =
      targets_with c.self.inside.targets.keys c.insert.new.self.keys c.self.inside.links.items c.insert-2.new.self.items c.link_place-place.result c.args.link
      c.self.invariant.targets (more c) c.in_ok-insert.ensures.updates.0;
}

pub returns-clause-ok : goal.returns-clause-ok
returns-clause-ok c = (put c).1
