use Rattle.std.proofs.Common.{ℕ, ◌<◌, sym, subst}
use Rattle.std.specs.Prelude.{AllPairs}
use Rattle.nk_topo.proofs.Insides.{numbers_rise, ports_found, ports_missed, ArePorts}
use Rattle.nk_topo.proofs.topo.Topo.ports.Goals as goal
use Rattle.nk_topo.proofs.topo.Topo.ports.Goals.{After-as_slice-in-Some}

pub find_in-requires : goal.find_in-requires
find_in-requires c =
    subst (λ ns. AllPairs {X = ℕ} (λ p q. p < q) ns) (sym c.as_slice.ensures.value) (numbers_rise _ _ _ c.self.invariant.inside)

-- the ports found
found : (c : After-as_slice-in-Some) → ArePorts c.args.self.now c.args.sw c.as_slice-in-Some.result.now
found c =
    ports_found (λ p. p.items) _ c.as_slice.result.now _ _ _ c.args.sw c.in-Some.place c.index.result.now _ c.self.invariant.inside c.self.view_is
    c.as_slice.ensures.value (sym c.in-Some.ensures.place) c.index.ensures c.as_slice-in-Some.ensures.value

pub returns-in-Some-clause-ports : goal.returns-in-Some-clause-ports
returns-in-Some-clause-ports c = (found c).ports

pub returns-in-Some-clause-ascend : goal.returns-in-Some-clause-ascend
returns-in-Some-clause-ascend c = (found c).ascend

pub returns-in-Some-clause-each : goal.returns-in-Some-clause-each
returns-in-Some-clause-each c = (found c).each

pub returns-in-None-clause-ports : goal.returns-in-None-clause-ports
returns-in-None-clause-ports c =
    (ports_missed _ c.as_slice.result.now _ _ _ c.args.sw c.self.invariant.inside c.self.view_is c.as_slice.ensures.value (sym c.in-None.ensures.place)).ports

pub returns-in-None-clause-each : goal.returns-in-None-clause-each
returns-in-None-clause-each c =
    (ports_missed _ c.as_slice.result.now _ _ _ c.args.sw c.self.invariant.inside c.self.view_is c.as_slice.ensures.value (sym c.in-None.ensures.place)).each
