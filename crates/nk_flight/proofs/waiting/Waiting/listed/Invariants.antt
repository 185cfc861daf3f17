use Rattle.std.proofs.Common.{◌≡◌, take}
use Rattle.std.specs.List.{concat}
use Rattle.nk_flight.proofs.waiting.Waiting.listed.Given as goal

-- the places of the blocks so far
abbrev pub invariant-loop-block : goal.invariant-loop-block
invariant-loop-block l = l.places.items ≡ concat (take l.block-index l.block-items)
