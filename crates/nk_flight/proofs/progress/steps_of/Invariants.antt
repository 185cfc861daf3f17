use Rattle.std.proofs.Common.{◌≡◌, ◌≤◌, ◌*◌, take}
use Rattle.std.specs.Prelude.{map, sum}
use Rattle.nk_flight.specs.Updates.{done_by}
use Rattle.nk_flight.proofs.progress.steps_of.Given as goal

-- the steps of the switches passed, three of each at most
abbrev pub invariant-loop-switch : goal.invariant-loop-switch
invariant-loop-switch l = record {
  steps : l.total ≡ sum (map (done_by l.done) (take l.switch-index l.switches));
  few : l.total ≤ 3 * l.switch-index;
}
