use Rattle.std.proofs.Common.{◌≡◌, [], drop, take, map}
use Rattle.nk_declare.specs.Declarations.{ports_fault}
use Rattle.nk_declare.proofs.check.ports_of.Given as goal

-- the ports so far are those passed; the first fault is among those that are left
abbrev pub invariant-loop-p : goal.invariant-loop-p
invariant-loop-p l = record {
  numbers : l.all ≡ map (λ p. p.value) (take l.p-index l.ports);
  left : ports_fault l.all (drop l.p-index l.ports) ≡ ports_fault [] l.ports;
}
