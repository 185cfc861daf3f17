use Rattle.nk_backward.specs.Places.{AreAllPlaces}
use Rattle.nk_backward.proofs.postorder.with_places.Given as goal

abbrev pub invariant-loop-k : goal.invariant-loop-k
invariant-loop-k l = AreAllPlaces l.k l.all
