use Rattle.std.proofs.Common.{◌≡◌, take}
use Rattle.std.specs.Prelude.{map}
use Rattle.nk_update.specs.Steps.{table_after}
use Rattle.nk_flight.proofs.stages.tables_of.Given as goal

-- the tables of the switches passed
abbrev pub invariant-loop-switch : goal.invariant-loop-switch
invariant-loop-switch l = l.all ≡ map (table_after l.steps) (take l.switch-index l.switches)
