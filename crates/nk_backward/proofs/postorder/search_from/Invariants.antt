use Rattle.std.proofs.Common.{◌≡◌, length}
use Rattle.nk_backward.proofs.postorder.search_from.Given as goal

abbrev pub invariant-loop-turn : goal.invariant-loop-turn
invariant-loop-turn l = length l.ranks ≡ length l.ts
