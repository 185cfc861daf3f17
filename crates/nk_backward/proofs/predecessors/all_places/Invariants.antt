use Rattle.nk_backward.specs.Predecessors.{ArePlacesBelow}
use Rattle.nk_backward.proofs.predecessors.all_places.Given as goal

abbrev pub invariant-loop-k : goal.invariant-loop-k
invariant-loop-k l = ArePlacesBelow l.ts l.k l.all
