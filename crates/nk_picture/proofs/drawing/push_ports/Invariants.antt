use Rattle.std.proofs.Common.{◌≡◌, ◌++◌, drop}
use Rattle.std.specs.List.{flat_map}
use Rattle.nk_topo.specs.Topology.{ports_of}
use Rattle.nk_picture.specs.Drawing.{port_line}
use Rattle.nk_picture.proofs.drawing.push_ports.Given as goal

-- what is made so far, then the rest, is the whole
abbrev pub invariant-loop-port : goal.invariant-loop-port
invariant-loop-port l = record {
  whole : l.out.items ++ flat_map (port_line l.topo l.sw) (drop l.port-index l.ports) ≡ l.fn.out.items ++ flat_map (port_line l.topo l.sw) l.ports;
  all : l.ports ≡ ports_of l.topo l.sw;
}
