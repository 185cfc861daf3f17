use Rattle.std.proofs.Common.{◌≤◌, [], length, drop}
use Rattle.nk_policy.specs.Policy.{sum_of, seq_of}
use Rattle.nk_policy.specs.Tree.{trees_of}
use Rattle.nk_store.specs.StoreState.{Grows, HasLeaves}
use Rattle.nk_auto.specs.Continued.{IsSilent, AreWritten}
use Rattle.nk_auto.specs.Guarded.{IsGuarded}
use Rattle.nk_auto.specs.TwoWays.{AreWays}
use Rattle.nk_auto.proofs.Sums.{AreOf, IsOnward}
use Rattle.nk_auto.proofs.with_states.+with_states.Given as goal

-- the parts from the place on have their diagrams, and their states are written
abbrev pub invariant-any_with_states-loop-i : goal.invariant-any_with_states-loop-i
invariant-any_with_states-loop-i l = record {
  grows : Grows l.fn.st l.st;
  within : l.i ≤ length l.ps;
  made : AreOf (IsOnward l.next) l.st l.ids (trees_of (drop l.i l.ps));
  written : AreWritten l.st l.fn.states l.states l.base (sum_of (trees_of (drop l.i l.ps))) l.next;
}

abbrev pub decreases-any_with_states-loop-i : goal.decreases-any_with_states-loop-i
decreases-any_with_states-loop-i l = l.i

-- the parts from the place on are a guard and a diagram, and their states are written
abbrev pub invariant-all_with_states-loop-i : goal.invariant-all_with_states-loop-i
invariant-all_with_states-loop-i l = record {
  grows : Grows l.fn.st l.st;
  within : l.i ≤ length l.ps;
  following : IsGuarded l.st l.following.guard l.following.rest (seq_of (trees_of (drop l.i l.ps))) l.fn.next;
  written : AreWritten l.st l.fn.states l.states l.base (seq_of (trees_of (drop l.i l.ps))) l.fn.next;
}

abbrev pub decreases-all_with_states-loop-i : goal.decreases-all_with_states-loop-i
decreases-all_with_states-loop-i l = l.i

-- the states of the parts from the place on are written
abbrev pub invariant-write_any-loop-i : goal.invariant-write_any-loop-i
invariant-write_any-loop-i l = record {
  grows : Grows l.fn.st l.st;
  within : l.i ≤ length l.ps;
  written : AreWritten l.st l.fn.states l.states l.base (sum_of (trees_of (drop l.i l.ps))) l.next;
}

abbrev pub decreases-write_any-loop-i : goal.decreases-write_any-loop-i
decreases-write_any-loop-i l = l.i

-- the parts from the place on are a guard and a diagram, and their states are written
abbrev pub invariant-write_all-loop-i : goal.invariant-write_all-loop-i
invariant-write_all-loop-i l = record {
  grows : Grows l.fn.st l.st;
  within : l.i ≤ length l.ps;
  later : IsGuarded l.st l.later.guard l.later.rest (seq_of (trees_of (drop l.i l.ps))) l.fn.next;
  written : AreWritten l.st l.fn.states l.states l.base (seq_of (trees_of (drop l.i l.ps))) l.fn.next;
}

abbrev pub decreases-write_all-loop-i : goal.decreases-write_all-loop-i
decreases-write_all-loop-i l = l.i

-- the parts from the place on have their diagrams, each way
abbrev pub invariant-both_any-loop-i : goal.invariant-both_any-loop-i
invariant-both_any-loop-i l = record {
  grows : Grows l.fn.st l.st;
  within : l.i ≤ length l.ps;
  none : HasLeaves l.st l.nothing (λ pk. []);
  silently : AreOf IsSilent l.st l.silents (trees_of (drop l.i l.ps));
  recording : AreOf (IsOnward l.nothing) l.st l.records (trees_of (drop l.i l.ps));
}

abbrev pub decreases-both_any-loop-i : goal.decreases-both_any-loop-i
decreases-both_any-loop-i l = l.i

-- the parts from the place on have one diagram each way
abbrev pub invariant-both_all-loop-i : goal.invariant-both_all-loop-i
invariant-both_all-loop-i l = record {
  grows : Grows l.fn.st l.st;
  within : l.i ≤ length l.ps;
  following : AreWays l.st l.following.silent l.following.records l.nothing (seq_of (trees_of (drop l.i l.ps)));
}

abbrev pub decreases-both_all-loop-i : goal.decreases-both_all-loop-i
decreases-both_all-loop-i l = l.i
