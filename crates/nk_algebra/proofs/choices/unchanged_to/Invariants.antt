use Rattle.std.proofs.Common.{◌≤◌, slice_index}
use Rattle.nk_algebra.proofs.choices.unchanged_to.Given as goal

abbrev pub invariant-loop-i : goal.invariant-loop-i
invariant-loop-i l = l.least ≤ slice_index l.st.maxes l.g
