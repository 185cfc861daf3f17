use Rattle.std.proofs.Common.{◌≡◌, ℕ, List, length, ◌+◌, ◌-◌}
use Rattle.nk_store.specs.StoreState.{StoreState}
use Rattle.nk_goal.proofs.Everything.{all_nodes}
use Rattle.nk_goal.proofs.Going.{Going}
use Rattle.nk_reach.proofs.search.put_levels.Given as goal

abbrev pub invariant-loop-st : goal.invariant-loop-st
invariant-loop-st g l = record {
  fits : g.G.Goal.fits l.g l.st;
  labels : g.G.Goal.labels l.g ≡ g.G.Goal.labels l.fn.g;
  same : (st : StoreState) (set pk : List ℕ) → g.G.Goal.violations_of l.g st set pk ≡ g.G.Goal.violations_of l.fn.g st set pk;
  going : (h : ℕ) × Going l.fn.st l.fn.ss l.st l.ss l.states l.fn.s l.fn.start (g.G.Goal.violations_of l.fn.g l.fn.st) l.visited l.all h;
}

abbrev pub decreases-loop-st : goal.decreases-loop-st
decreases-loop-st g l = length (all_nodes l.fn.st.maxes (length l.states)) + 1 - length l.all
