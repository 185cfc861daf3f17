use Rattle.std.proofs.Common.{◌+◌, ◌*◌, drop}
use Rattle.nk_sets.proofs.LeastPackets.{Reached}
use Rattle.nk_sets.proofs.least_packets.+lowest.Given as goal

abbrev pub decreases-lowest : goal.decreases-lowest
decreases-lowest l = 2 * l.s + 1

abbrev pub decreases-lowest_part : goal.decreases-lowest_part
decreases-lowest_part l = 2 * l.s

abbrev pub invariant-lowest_part-loop-end : goal.invariant-lowest_part-loop-end
invariant-lowest_part-loop-end l = Reached l.st l.fn.s l.f l.parts l.from (drop l.end-index l.parts)
