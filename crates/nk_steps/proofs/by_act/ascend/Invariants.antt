use Rattle.std.proofs.Common.{ℕ, ◌+◌, ◌<◌, get_or}
use Rattle.nk_steps.proofs.by_act.ascend.Given as goal

-- the labels so far ascend
abbrev pub invariant-loop-i : goal.invariant-loop-i
invariant-loop-i l = (k : ℕ) → k + 1 < l.i → get_or l.labels k 0 < get_or l.labels (k + 1) 0
