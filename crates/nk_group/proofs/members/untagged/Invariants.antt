use Rattle.std.proofs.Common.{◌≡◌, ◌+◌, ◌<◌, ℕ, None, Some, length, get_or}
use Rattle.nk_group.proofs.members.untagged.Given as goal

-- so many sets without a tag
abbrev pub invariant-loop-i : goal.invariant-loop-i
invariant-loop-i l = record {
  len : length l.table ≡ l.i + 1;
  zero : get_or l.table 0 None ≡ Some 0;
  none : (u : ℕ) → 0 < u → get_or l.table u None ≡ None;
}
