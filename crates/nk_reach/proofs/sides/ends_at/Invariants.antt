use Rattle.std.proofs.Common.{◌≡◌, map, take, get_or}
use Rattle.nk_reach.proofs.sides.ends_at.Given as goal

abbrev pub invariant-loop-l : goal.invariant-loop-l
invariant-loop-l l = l.ds ≡ map (λ k. get_or l.ends k 0) (take l.l-index l.labels)
