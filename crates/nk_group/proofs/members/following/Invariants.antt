use Rattle.std.proofs.Common.{◌≡◌, ◌+◌, take}
use Rattle.std.specs.Prelude.{map}
use Rattle.nk_group.proofs.members.following.Given as goal

-- the places after the labels so far
abbrev pub invariant-loop-l : goal.invariant-loop-l
invariant-loop-l l = l.ls ≡ map (λ n. n + 1) (take l.l-index l.l-items)
