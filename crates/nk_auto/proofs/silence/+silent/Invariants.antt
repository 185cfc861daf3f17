use Rattle.std.proofs.Common.{◌≤◌, [], length, drop}
use Rattle.nk_policy.specs.Policy.{sum_of, seq_of}
use Rattle.nk_policy.specs.Tree.{trees_of}
use Rattle.nk_store.specs.StoreState.{Grows, HasLeaves}
use Rattle.nk_auto.specs.Continued.{IsSilent}
use Rattle.nk_auto.specs.ByValue.{AreArms, AreAssignments}
use Rattle.nk_auto.proofs.Sums.{AreOf}
use Rattle.nk_auto.proofs.silence.+silent.Given as goal

-- the parts from the place on have their diagrams
abbrev pub invariant-silent_any-loop-i : goal.invariant-silent_any-loop-i
invariant-silent_any-loop-i l = record {
  grows : Grows l.fn.st l.st;
  within : l.i ≤ length l.ps;
  made : AreOf IsSilent l.st l.ids (trees_of (drop l.i l.ps));
}

abbrev pub decreases-silent_any-loop-i : goal.decreases-silent_any-loop-i
decreases-silent_any-loop-i l = l.i

-- the parts from the place on are one diagram
abbrev pub invariant-silent_from-loop-i : goal.invariant-silent_from-loop-i
invariant-silent_from-loop-i l = record {
  grows : Grows l.fn.st l.st;
  within : l.i ≤ length l.ps;
  least : l.fn.from ≤ l.i;
  nothing : HasLeaves l.st l.nothing (λ pk. []);
  rest : IsSilent l.st l.rest (seq_of (trees_of (drop l.i l.ps)));
}

abbrev pub decreases-silent_from-loop-i : goal.decreases-silent_from-loop-i
decreases-silent_from-loop-i l = l.i

-- the parts from the place on have the arms that were found, and what is remembered is right
abbrev pub invariant-arms_of-loop-i : goal.invariant-arms_of-loop-i
invariant-arms_of-loop-i l = record {
  grows : Grows l.fn.st l.st;
  within : l.i ≤ length l.ps;
  arms : AreArms l.st l.fn.f l.found (sum_of (trees_of (drop l.i l.ps)));
  drawn : AreAssignments l.st l.drawn;
}

abbrev pub decreases-arms_of-loop-i : goal.decreases-arms_of-loop-i
decreases-arms_of-loop-i l = l.i
