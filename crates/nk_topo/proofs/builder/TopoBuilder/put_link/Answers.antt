use Rattle.std.proofs.Common.{◌≡◌, ◌∙◌, map, sym, subst}
use Rattle.nk_topo.specs.Topology.{with_link}
use Rattle.nk_topo.specs.Inside.{link_of}
use Rattle.nk_topo.specs.Gathered.{switch_of, four_of, topology_from, IsGathered}
use Rattle.nk_topo.proofs.Gathers.{gathered_with_link, on_ok}
use Rattle.nk_topo.proofs.builder.TopoBuilder.put_link.Goals as goal
use Rattle.nk_topo.proofs.builder.TopoBuilder.put_link.Goals.{After-unwrap}

pub invariant_of-self-in_err-insert : goal.invariant_of-self-in_err-insert
invariant_of-self-in_err-insert c =
    subst (λ ls. IsGathered (map (λ e. switch_of e.0 e.1.items) c.self.inside.switches.entries) ls c.reserve.new.self.keys) (sym c.in_err-insert.ensures.err)
    (record {
      topology = c.self.invariant.topology;
      targets = λ sw pt. c.in_ok-reserve.ensures.keys.2 (sw, pt) ∙ c.self.invariant.targets sw pt;
    })

-- the new entry, and the topology that the maps make
put : (c : After-unwrap) →
    IsGathered (map (λ e. switch_of e.0 e.1.items) c.self.inside.switches.entries) c.insert.new.self.entries c.insert-2.new.self.keys
    × (topology_from (map (λ e. switch_of e.0 e.1.items) c.self.inside.switches.entries) c.insert.new.self.entries
    ≡ with_link c.args.self.now (link_of (four_of (c.args.source, c.args.target))))
put c =
    gathered_with_link (map (λ e. switch_of e.0 e.1.items) c.self.inside.switches.entries) c.self.inside.links.entries c.insert.new.self.entries
    c.reserve.new.self.keys c.insert-2.new.self.keys c.args.self.now c.args.source c.args.target
    c.self.invariant.topology
    (λ sw pt. c.in_ok-reserve.ensures.keys.2 (sw, pt) ∙ c.self.invariant.targets sw pt)
    c.self.view_is c.in_ok-insert.ensures.entries c.requires.source c.requires.target c.requires.one_from c.requires.one_to
    (on_ok c.insert-2.result c.unwrap.result c.unwrap.ensures c.insert-2.ensures.updates).0

pub invariant_of-self-2 : goal.invariant_of-self-2
invariant_of-self-2 c = (put c).0

pub returns-clause-ok : goal.returns-clause-ok
returns-clause-ok c = (put c).1
