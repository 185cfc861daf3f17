use Rattle.std.proofs.Common.{◌≡◌, ◌++◌, drop}
use Rattle.nk_store.specs.Nodes.{joined}
use Rattle.nk_store.proofs.parts.join_neighbours.Given as goal

abbrev pub invariant-loop-i : goal.invariant-loop-i
invariant-loop-i l = l.kept ++ joined (drop l.i l.parts) ≡ joined l.parts
