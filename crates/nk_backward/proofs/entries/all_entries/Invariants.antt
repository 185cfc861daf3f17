use Rattle.std.proofs.Common.{◌≡◌, ◌++◌, drop}
use Rattle.nk_backward.specs.Transitions.{explored_entries}
use Rattle.nk_backward.proofs.entries.all_entries.Given as goal

abbrev pub invariant-loop-k : goal.invariant-loop-k
invariant-loop-k l = l.all ++ explored_entries (drop l.k l.l.levels) ≡ explored_entries l.l.levels
