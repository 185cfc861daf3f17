use Rattle.std.proofs.Common.{◌≡◌, ◌++◌, drop}
use Rattle.nk_apply.proofs.leaves.copy_from.Given as goal

abbrev pub invariant-loop-i : goal.invariant-loop-i
invariant-loop-i l = l.all ++ drop l.i l.outs ≡ l.initial.all ++ drop l.from l.outs
