use Rattle.std.proofs.Common.{length}
use Rattle.nk_determ.proofs.InPlace.{IsLeft}
use Rattle.nk_determ.proofs.states.outs_to_sets.Given as goal

-- what is made of the runs so far and of what is left is what is made of the leaf
abbrev pub invariant-loop-rest : goal.invariant-loop-rest
invariant-loop-rest l = IsLeft l.fn.sets l.sets l.outs l.all l.rest

abbrev pub decreases-loop-rest : goal.decreases-loop-rest
decreases-loop-rest l = length l.rest
