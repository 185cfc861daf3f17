use Rattle.std.proofs.Common.{◌≡◌, ◌++◌, take}
use Rattle.std.specs.Prelude.{replicate}
use Rattle.nk_compile.proofs.tagging.padded.Given as goal

-- the set so many times
abbrev pub invariant-loop-i : goal.invariant-loop-i
invariant-loop-i l = l.all ≡ replicate l.i l.fn.none

-- and the sets so far after
abbrev pub invariant-loop-s : goal.invariant-loop-s
invariant-loop-s l = l.all ≡ replicate l.first l.fn.none ++ take l.s-index l.tags
