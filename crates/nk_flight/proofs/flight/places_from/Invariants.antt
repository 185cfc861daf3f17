use Rattle.std.proofs.Common.{◌≡◌}
use Rattle.std.specs.List.{range_with_len}
use Rattle.nk_flight.proofs.flight.places_from.Given as goal

-- the places so far
abbrev pub invariant-loop-i : goal.invariant-loop-i
invariant-loop-i l = l.places.items ≡ range_with_len l.first l.i
