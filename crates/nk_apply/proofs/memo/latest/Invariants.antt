use Rattle.std.proofs.Common.{◌≡◌, eqb, reverse, take}
use Rattle.std.specs.Map.{lookup}
use Rattle.nk_apply.proofs.memo.latest.Given as goal

-- none of those that were looked at is of the diagram
abbrev pub invariant-loop-i : goal.invariant-loop-i
invariant-loop-i g l = lookup (eqb l.d) (reverse (take l.i l.entries)) ≡ lookup (eqb l.d) (reverse l.entries)
