use Rattle.std.proofs.Common.{◌≡◌, take}
use Rattle.std.specs.Prelude.{map}
use Rattle.nk_compact.specs.ClassesAtSwitches.{switch_classes_of}
use Rattle.nk_compact.proofs.switch_classes.classes_at_switches.Given as goal

-- the switches so far
abbrev pub invariant-loop-switch_entry : goal.invariant-loop-switch_entry
invariant-loop-switch_entry l = l.all ≡ map (switch_classes_of l.classes l.met l.firsts) (take l.switch_entry-index l.by_switch)
