use Rattle.std.proofs.Common.{◌≡◌, ℕ, ◌<◌, List, [], get_or}
use Rattle.nk_store.specs.StoreState.{StoreState, Grows}
use Rattle.nk_goal.specs.Goals.{PairHasNoViolation}
use Rattle.nk_goal.proofs.goal.any_violation.Given as goal

abbrev pub invariant-loop-i : goal.invariant-loop-i
invariant-loop-i g l = record {
  grows : Grows l.fn.st l.st;
  fits : g.G.Goal.fits l.g l.st;
  labels : g.G.Goal.labels l.g ≡ g.G.Goal.labels l.fn.g;
  same : (st : StoreState) (set pk : List ℕ) → g.G.Goal.violations_of l.g st set pk ≡ g.G.Goal.violations_of l.fn.g st set pk;
  none : (k : ℕ) → k < l.i → (d : ℕ × ℕ) → PairHasNoViolation l.fn.st (get_or l.level k d).1 (g.G.Goal.violations_of l.fn.g l.fn.st (get_or l.ss (get_or l.level k d).0 []));
}
