use Rattle.std.proofs.Common.{◌≡◌, ◌+◌, ◌++◌, drop}
use Rattle.nk_picture.specs.Drawing.{steps_from, step_lines}
use Rattle.nk_picture.proofs.drawing.push_way.Given as goal

-- the steps that are left, after those so far, are all
abbrev pub invariant-loop-i : goal.invariant-loop-i
invariant-loop-i l =
    l.out.items ++ steps_from l.before (l.i + 1) (drop l.i l.way) ≡ l.fn.out.items ++ step_lines l.way
