use Rattle.std.proofs.Common.{◌-◌}
use Rattle.nk_apply.proofs.sums.+sum_parts.Given as goal

abbrev pub decreases-sum_parts : goal.decreases-sum_parts
decreases-sum_parts l = l.to - l.from
