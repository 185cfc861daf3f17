use Rattle.std.proofs.Common.{◌≡◌, ℕ, List, take}
use Rattle.nk_store.specs.StoreState.{StoreState, Grows}
use Rattle.nk_witness.specs.Backs.{AreViolationsSoFar}
use Rattle.nk_witness.proofs.back.violation_level.Given as goal

abbrev pub invariant-loop-k : goal.invariant-loop-k
invariant-loop-k g l = record {
  grows : Grows l.fn.st l.st;
  fits : g.G.Goal.fits l.g l.st;
  labels : g.G.Goal.labels l.g ≡ g.G.Goal.labels l.fn.g;
  same : (st : StoreState) (set pk : List ℕ) → g.G.Goal.violations_of l.g st set pk ≡ g.G.Goal.violations_of l.fn.g st set pk;
  made : AreViolationsSoFar l.fn.st l.ss (g.G.Goal.violations_of l.fn.g l.fn.st) (take l.k l.level) l.st l.back;
}
