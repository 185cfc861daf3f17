use Rattle.std.proofs.Common.{◌-◌}
use Rattle.nk_tag.specs.Numbers.{later_level}
use Rattle.nk_tag.specs.Steps.{AreBelow}
use Rattle.nk_tag.proofs.numbers.later_sets.Given as goal

abbrev pub invariant-loop-i : goal.invariant-loop-i
invariant-loop-i l = AreBelow (later_level l.lv.levels) l.ss (l.i - 1) l.all.keys
