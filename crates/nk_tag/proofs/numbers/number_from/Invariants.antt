use Rattle.std.proofs.Common.{◌+◌, ◌≤◌, length}
use Rattle.nk_tag.specs.Numbers.{odd_level}
use Rattle.nk_tag.specs.Steps.{AreBelow}
use Rattle.nk_tag.proofs.numbers.number_from.Given as goal

abbrev pub invariant-loop-j : goal.invariant-loop-j
invariant-loop-j l = record {
  below : AreBelow (odd_level l.lv.levels) l.ss l.j l.all.keys;
  few : l.first + length l.all.keys ≤ l.max;
}
