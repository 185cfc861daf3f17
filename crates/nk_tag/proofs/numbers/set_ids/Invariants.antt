use Rattle.std.proofs.Common.{◌≡◌, take}
use Rattle.nk_tag.proofs.numbers.set_ids.Given as goal

abbrev pub invariant-loop-place : goal.invariant-loop-place
invariant-loop-place l = l.ids ≡ take l.place-index l.places
