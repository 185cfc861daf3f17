use Rattle.std.proofs.Common.{◌≡◌}
use Rattle.nk_compact.specs.ClassesAtSwitches.{classes_among}
use Rattle.nk_compact.proofs.switch_classes.classes_at.Given as goal

-- the classes so far
abbrev pub invariant-loop-c : goal.invariant-loop-c
invariant-loop-c l = l.here ≡ classes_among l.classes l.met l.firsts l.tags l.c
