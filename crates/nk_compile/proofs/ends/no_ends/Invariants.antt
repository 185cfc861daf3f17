use Rattle.std.proofs.Common.{◌≡◌, ℕ, None, length, get_or}
use Rattle.nk_compile.proofs.ends.no_ends.Given as goal

-- so many numbers without an end
abbrev pub invariant-loop-i : goal.invariant-loop-i
invariant-loop-i l = record {
  len : length l.ends ≡ l.i;
  none : (k : ℕ) → get_or l.ends k None ≡ None;
}
