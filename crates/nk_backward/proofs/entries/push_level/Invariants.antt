use Rattle.std.proofs.Common.{◌≡◌, ◌++◌, take}
use Rattle.nk_backward.proofs.entries.push_level.Given as goal

abbrev pub invariant-loop-pair : goal.invariant-loop-pair
invariant-loop-pair l = l.all ≡ l.fn.all ++ take l.pair-index l.level
