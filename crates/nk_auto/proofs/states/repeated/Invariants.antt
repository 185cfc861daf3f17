use Rattle.std.proofs.Common.{◌≡◌, length}
use Rattle.nk_auto.proofs.states.repeated.Given as goal

-- one for each round
abbrev pub invariant-loop-i : goal.invariant-loop-i
invariant-loop-i l = record { many : length l.states ≡ l.i }
