use Rattle.std.proofs.Common.{◌≡◌, ◌+◌, ◌-◌, ◌<◌, length, take}
use Rattle.std.specs.List.{concat}
use Rattle.nk_flight.proofs.waiting.find.Given as goal

-- this block is there, and in front of it stand as many places as were passed
abbrev pub invariant-loop-within : goal.invariant-loop-within
invariant-loop-within l = (l.block < length l.blocks) × (length (concat (take l.block l.blocks)) + l.within ≡ l.i)

abbrev pub decreases-loop-within : goal.decreases-loop-within
decreases-loop-within l = length l.blocks - l.block
