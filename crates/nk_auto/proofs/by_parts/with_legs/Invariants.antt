use Rattle.std.proofs.Common.{◌≤◌, length, drop}
use Rattle.nk_policy.specs.Tree.{tree_of}
use Rattle.nk_store.specs.StoreState.{Grows}
use Rattle.nk_auto.specs.OfParts.{IsOfPart}
use Rattle.nk_auto.proofs.by_parts.with_legs.Given as goal

-- the legs from the place on are drawn
abbrev pub invariant-loop-i : goal.invariant-loop-i
invariant-loop-i l = record {
  grows : Grows l.fn.st l.st;
  within : l.i ≤ length l.legs;
  rest : IsOfPart l.st l.d (tree_of l.free) (drop l.i l.legs);
}

abbrev pub decreases-loop-i : goal.decreases-loop-i
decreases-loop-i l = l.i
