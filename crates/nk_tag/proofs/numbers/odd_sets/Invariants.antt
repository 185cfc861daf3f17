use Rattle.nk_tag.specs.Numbers.{odd_level}
use Rattle.nk_tag.specs.Steps.{AreBelow}
use Rattle.nk_tag.proofs.numbers.odd_sets.Given as goal

abbrev pub invariant-loop-k : goal.invariant-loop-k
invariant-loop-k l = AreBelow (odd_level l.lv.levels) l.ss l.k l.all.keys
