use Rattle.std.proofs.Common.{◌≡◌, take}
use Rattle.nk_compile.specs.Ports.{with_sets}
use Rattle.nk_compile.proofs.ports.port_sets.Given as goal

-- the ports so far have their sets
abbrev pub invariant-loop-pt : goal.invariant-loop-pt
invariant-loop-pt l = l.children ≡ with_sets l.edges_only l.topo l.sw l.none l.all (take l.pt-index l.ports)
