use Rattle.std.proofs.Common.{◌≡◌, take}
use Rattle.std.specs.Prelude.{map}
use Rattle.nk_update.specs.Plans.{switches_of}
use Rattle.nk_update.specs.Steps.{plan_steps_of}
use Rattle.nk_update.proofs.planning.each_switch.Given as goal

-- the tables of the switches passed
abbrev pub invariant-loop-switch : goal.invariant-loop-switch
invariant-loop-switch l = l.all ≡ map (plan_steps_of l.old l.new l.tag) (take l.switch-index (switches_of l.old))
