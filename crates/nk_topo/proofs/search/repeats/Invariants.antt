use Rattle.std.proofs.Common.{◌≡◌, ◌-◌, drop}
use Rattle.nk_topo.specs.Topology.{has_double}
use Rattle.nk_topo.proofs.search.repeats.Given as goal

-- none of the numbers before the place stands twice
abbrev pub invariant-loop-i : goal.invariant-loop-i
invariant-loop-i l = has_double (drop (l.i - 1) l.numbers) ≡ has_double l.numbers
