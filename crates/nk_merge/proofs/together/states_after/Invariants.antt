use Rattle.std.proofs.Common.{◌≡◌, ◌+◌, take}
use Rattle.std.specs.Prelude.{map, slice_index}
use Rattle.nk_merge.proofs.together.states_after.Given as goal

-- the states after the labels so far
abbrev pub invariant-loop-l : goal.invariant-loop-l
invariant-loop-l l = l.ds ≡ map (λ n. slice_index l.states (n + 1)) (take l.l-index l.labels)
