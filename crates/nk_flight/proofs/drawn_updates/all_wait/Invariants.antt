use Rattle.std.proofs.Common.{◌≡◌, take}
use Rattle.nk_flight.proofs.drawn_updates.all_wait.Given as goal

-- those so far
abbrev pub invariant-loop-switch : goal.invariant-loop-switch
invariant-loop-switch l = l.waiting ≡ take l.switch-index l.switches
