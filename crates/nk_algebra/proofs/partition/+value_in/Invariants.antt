use Rattle.std.proofs.Common.{◌+◌, ◌*◌}
use Rattle.nk_algebra.proofs.partition.+value_in.Given as goal

abbrev pub decreases-value_in : goal.decreases-value_in
decreases-value_in l = 2 * l.steps + 1

abbrev pub decreases-value_below : goal.decreases-value_below
decreases-value_below l = 2 * l.steps
