use Rattle.std.proofs.Common.{◌≡◌, take, get_or}
use Rattle.std.specs.Prelude.{map}
use Rattle.nk_determ.proofs.states.states_at.Given as goal

-- the states at the labels so far
abbrev pub invariant-loop-l : goal.invariant-loop-l
invariant-loop-l l = l.ds ≡ map (λ place. get_or l.states place 0) (take l.l-index l.labels)
