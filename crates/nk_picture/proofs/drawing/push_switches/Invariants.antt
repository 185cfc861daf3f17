use Rattle.std.proofs.Common.{◌≡◌, ◌++◌, drop}
use Rattle.std.specs.List.{flat_map}
use Rattle.nk_topo.specs.Topology.{numbers_of}
use Rattle.nk_picture.specs.Drawing.{switch_lines}
use Rattle.nk_picture.proofs.drawing.push_switches.Given as goal

-- what is made so far, then the rest, is the whole
abbrev pub invariant-loop-number : goal.invariant-loop-number
invariant-loop-number l = record {
  whole : l.out.items ++ flat_map (switch_lines l.topo) (drop l.number-index l.numbers) ≡ l.fn.out.items ++ flat_map (switch_lines l.topo) l.numbers;
  all : l.numbers ≡ numbers_of l.topo;
}
