use Rattle.nk_backward.proofs.Sweeping.{IsSweptSoFar}
use Rattle.nk_backward.proofs.sweeps.sweep.Given as goal

abbrev pub invariant-loop-k : goal.invariant-loop-k
invariant-loop-k l = IsSweptSoFar l.fn.st l.ts l.order l.fn.back l.st l.back l.k l.closed
