use Rattle.std.proofs.Common.{◌+◌, ◌*◌}
use Rattle.nk_algebra.proofs.partition.+has_many.Given as goal

abbrev pub decreases-has_many : goal.decreases-has_many
decreases-has_many l = 2 * l.steps + 1

abbrev pub decreases-some_has_many : goal.decreases-some_has_many
decreases-some_has_many l = 2 * l.steps
