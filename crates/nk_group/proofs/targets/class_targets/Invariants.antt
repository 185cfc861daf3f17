use Rattle.std.proofs.Common.{◌≡◌, take}
use Rattle.std.specs.Prelude.{map}
use Rattle.nk_group.specs.Classed.{numbered_target}
use Rattle.nk_group.proofs.targets.class_targets.Given as goal

-- the numbers of the targets so far
abbrev pub invariant-loop-tag : goal.invariant-loop-tag
invariant-loop-tag l = l.numbers ≡ map (numbered_target l.classes) (take l.tag-index l.table)
