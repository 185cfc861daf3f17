use Rattle.std.proofs.Common.{◌≡◌, ◌-◌, ◌<◌, ◌≤◌, take, drop, length}
use Rattle.nk_determ.specs.Branches.{runs, branches_in, branch_of}
use Rattle.nk_determ.proofs.branches.run_length.Given as goal

-- the outs so far are one branch
abbrev pub invariant-loop-end : goal.invariant-loop-end
invariant-loop-end l = record {
  some : 0 < l.end;
  within : l.end ≤ length l.outs;
  run : branches_in l.outs ≡ runs (branch_of (take l.end l.outs)) (drop l.end l.outs);
}

abbrev pub decreases-loop-end : goal.decreases-loop-end
decreases-loop-end l = length l.outs - l.end
