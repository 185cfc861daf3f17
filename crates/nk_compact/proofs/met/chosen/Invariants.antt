use Rattle.std.proofs.Common.{◌≡◌, take}
use Rattle.std.specs.Prelude.{map, slice_index}
use Rattle.nk_compact.proofs.met.chosen.Given as goal

-- the diagrams of the sets so far
abbrev pub invariant-loop-s : goal.invariant-loop-s
invariant-loop-s l = l.all ≡ map (λ s. slice_index l.by_set s) (take l.s-index l.sets)
