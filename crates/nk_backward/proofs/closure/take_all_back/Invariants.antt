use Rattle.nk_backward.proofs.Taking.{IsPart}
use Rattle.nk_backward.proofs.Missing.{missing}
use Rattle.nk_backward.proofs.closure.take_all_back.Given as goal

abbrev pub invariant-passes : goal.invariant-passes
invariant-passes l = IsPart l.fn.st l.ts l.fn.back l.st l.back l.frontier

abbrev pub decreases-passes : goal.decreases-passes
decreases-passes l = missing l.fn.st.maxes l.st l.back l.ts
