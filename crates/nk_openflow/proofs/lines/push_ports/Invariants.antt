use Rattle.std.proofs.Common.{◌≡◌, ◌++◌, drop}
use Rattle.std.specs.List.{flat_map}
use Rattle.nk_openflow.specs.Lines.{line_if_agrees}
use Rattle.nk_openflow.proofs.lines.push_ports.Given as goal

-- what is made so far, then the rest, is the whole
abbrev pub invariant-loop-port : goal.invariant-loop-port
invariant-loop-port l =
    l.out.items ++ flat_map (line_if_agrees l.fs l.mapping l.row l.m) (drop l.port-index l.ports) ≡ l.fn.out.items ++ flat_map (line_if_agrees l.fs l.mapping l.row l.m) l.ports
