use Rattle.std.proofs.Common.{ℕ, ◌<◌, ◌≤◌, get_or}
use Rattle.nk_check.proofs.entries.are_labels.Given as goal

-- the positions so far are labels
abbrev pub invariant-loop-label : goal.invariant-loop-label
invariant-loop-label l = (k : ℕ) → k < l.label-index → (1 ≤ get_or l.positions k 0) × (get_or l.positions k 0 < l.count)
