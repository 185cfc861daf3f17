use Rattle.std.proofs.Common.{◌≡◌, ◌++◌, ℕ, take, drop}
use Rattle.nk_extract.specs.RuleTree.{put_match}
use Rattle.nk_extract.proofs.row.place.Given as goal

abbrev pub invariant-loop-i : goal.invariant-loop-i
invariant-loop-i l = (to len : ℕ) → put_match (l.tag, to, len) l.matches ≡ take l.i l.matches ++ put_match (l.tag, to, len) (drop l.i l.matches)
