use Rattle.std.proofs.Common.{◌-◌, length}
use Rattle.nk_backward.specs.Predecessors.{IsRunOfSet}
use Rattle.nk_backward.proofs.predecessors.run_of_set.Given as goal

abbrev pub invariant-loop-to : goal.invariant-loop-to
invariant-loop-to l = IsRunOfSet l.ds l.from l.to l.all

abbrev pub decreases-loop-to : goal.decreases-loop-to
decreases-loop-to l = length l.ds - l.to
