use Rattle.std.proofs.Common.{ℕ, List, ◌++◌, take}
use Rattle.nk_tabtext.specs.Remembered.{BeginsWith, those}
use Rattle.nk_tabtext.proofs.last_matches.LastMatches.put_those.Given as goal

-- of the row and those of the matches so far as many stand here
abbrev pub invariant-loop-m : goal.invariant-loop-m
invariant-loop-m l =
    (row : List (ℕ × ℕ × ℕ)) → BeginsWith l.fs row l.from l.fn.self → BeginsWith l.fs (row ++ those l.fs l.tag (take l.m-index l.ms)) l.place l.self
