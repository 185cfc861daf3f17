use Rattle.std.proofs.Common.{◌≡◌, ◌+◌, take}
use Rattle.std.specs.Prelude.{map}
use Rattle.nk_compact.proofs.met.labels_after.Given as goal

-- the labels so far
abbrev pub invariant-loop-l : goal.invariant-loop-l
invariant-loop-l l = l.all ≡ map (λ n. n + 1) (take l.l-index l.labels)
