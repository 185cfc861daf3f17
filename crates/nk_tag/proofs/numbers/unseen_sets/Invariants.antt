use Rattle.std.proofs.Common.{◌≡◌, take}
use Rattle.nk_tag.specs.Steps.{unseen}
use Rattle.nk_tag.proofs.numbers.unseen_sets.Given as goal

abbrev pub invariant-loop-entry : goal.invariant-loop-entry
invariant-loop-entry l = l.sets.items ≡ unseen l.ss l.all.keys (take l.entry-index l.level)
