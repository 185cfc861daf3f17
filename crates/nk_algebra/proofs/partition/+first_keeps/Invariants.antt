use Rattle.std.proofs.Common.{◌+◌, ◌*◌}
use Rattle.nk_algebra.proofs.partition.+first_keeps.Given as goal

abbrev pub decreases-first_keeps : goal.decreases-first_keeps
decreases-first_keeps l = 2 * l.steps + 1

abbrev pub decreases-keeps_below : goal.decreases-keeps_below
decreases-keeps_below l = 2 * l.steps
