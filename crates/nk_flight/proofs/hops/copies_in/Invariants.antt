use Rattle.std.proofs.Common.{◌≡◌, take}
use Rattle.nk_flight.specs.Trails.{copies_at}
use Rattle.nk_flight.proofs.hops.copies_in.Given as goal

-- the copies so far
abbrev pub invariant-loop-place : goal.invariant-loop-place
invariant-loop-place l = l.flying.items ≡ copies_at l.fields l.hops (take l.place-index l.places)
