use Rattle.std.proofs.Common.{◌+◌, ◌-◌, length}
use Rattle.nk_field.proofs.act.count_of_both.Given as goal

abbrev pub decreases-loop-i : goal.decreases-loop-i
decreases-loop-i l = (length l.a - l.i) + (length l.b - l.k)
