use Rattle.std.proofs.Common.{◌≤◌}
use Rattle.nk_apply.proofs.few.with_ends.Given as goal

abbrev pub invariant-loop-end : goal.invariant-loop-end
invariant-loop-end l = l.more ≤ 4
