use Rattle.std.proofs.Common.{◌≡◌, drop}
use Rattle.nk_openflow.specs.Lines.{port_match}
use Rattle.nk_openflow.proofs.lines.port_match.Given as goal

-- what is passed says nothing
abbrev pub invariant-loop-m : goal.invariant-loop-m
invariant-loop-m l =
    port_match (drop l.m-index l.matches) ≡ port_match l.matches
