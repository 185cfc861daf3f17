use Rattle.std.proofs.Common.{◌≡◌, ◌≤◌, get_or, take}
use Rattle.nk_apply.specs.Unions.{cofactors}
use Rattle.nk_apply.proofs.Intervals.{AreSteadyTo}
use Rattle.nk_apply.proofs.few.interval_at.Given as goal

abbrev pub invariant-loop-i : goal.invariant-loop-i
invariant-loop-i l = record {
  from : l.v ≤ l.end;
  within : l.end ≤ get_or l.st.maxes l.f 0;
  steady : AreSteadyTo l.st l.f l.ds l.i l.v l.end;
  children : l.all ≡ cofactors l.st l.f l.v (take l.i l.ds);
}
