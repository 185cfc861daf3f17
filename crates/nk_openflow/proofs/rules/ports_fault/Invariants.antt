use Rattle.std.proofs.Common.{◌≡◌, drop}
use Rattle.nk_openflow.specs.Rules.{port_numbers_fault}
use Rattle.nk_openflow.proofs.rules.ports_fault.Given as goal

-- what is passed says nothing
abbrev pub invariant-loop-port : goal.invariant-loop-port
invariant-loop-port l =
    port_numbers_fault (drop l.port-index l.ports) ≡ port_numbers_fault l.ports
