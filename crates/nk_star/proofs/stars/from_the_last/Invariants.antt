use Rattle.std.proofs.Common.{◌≤◌, ◌-◌, length}
use Rattle.nk_store.specs.StoreState.{Grows, HasLeaves, look}
use Rattle.nk_apply.specs.Leaves.{merged}
use Rattle.nk_apply.specs.Unions.{unions}
use Rattle.nk_star.proofs.stars.from_the_last.Given as goal

-- those from a place on are put together
abbrev pub invariant-loop-k : goal.invariant-loop-k
invariant-loop-k l = record {
  grows : Grows l.fn.st l.st;
  within : l.k ≤ length l.ds;
  made : HasLeaves l.st l.all (λ pk. merged (unions l.fn.st l.ds l.k (length l.ds - l.k) pk) (look l.fn.st l.fn.d pk));
}

abbrev pub decreases-loop-k : goal.decreases-loop-k
decreases-loop-k l = l.k
