use Rattle.std.proofs.Common.{◌≡◌, take}
use Rattle.nk_compact.specs.ClassesAtSwitches.{acting_of}
use Rattle.nk_compact.proofs.switch_classes.acting_tags.Given as goal

-- the tags so far
abbrev pub invariant-loop-t : goal.invariant-loop-t
invariant-loop-t l = l.acting ≡ acting_of l.classes l.met l.class (take l.t-index l.tags)
