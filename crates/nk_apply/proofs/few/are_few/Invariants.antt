use Rattle.std.proofs.Common.{◌≤◌}
use Rattle.nk_apply.proofs.few.are_few.Given as goal

abbrev pub invariant-loop-i : goal.invariant-loop-i
invariant-loop-i l = l.count ≤ 4
