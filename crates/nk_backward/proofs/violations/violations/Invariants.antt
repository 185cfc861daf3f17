use Rattle.std.proofs.Common.{◌≡◌, ℕ, List, take}
use Rattle.nk_store.specs.StoreState.{StoreState, Grows}
use Rattle.nk_witness.specs.Backs.{AreViolationsSoFar}
use Rattle.nk_backward.specs.CounterexampleStarts.{of_side}
use Rattle.nk_backward.proofs.violations.violations.Given as goal

abbrev pub invariant-loop-k : goal.invariant-loop-k
invariant-loop-k g l = record {
  grows : Grows l.fn.st l.st;
  fits : g.G.Goal.fits l.g l.st;
  labels : g.G.Goal.labels l.g ≡ g.G.Goal.labels l.fn.g;
  same : (st : StoreState) (set pk : List ℕ) → g.G.Goal.violations_of l.g st set pk ≡ g.G.Goal.violations_of l.fn.g st set pk;
  made : AreViolationsSoFar l.fn.st l.ss (λ set pk. of_side l.side (g.G.Goal.violations_of l.fn.g l.fn.st set pk)) (take l.k l.entries) l.st l.back;
}
