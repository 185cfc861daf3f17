use Rattle.std.proofs.Common.{◌≡◌, take, get_or}
use Rattle.std.specs.Prelude.{map}
use Rattle.nk_compile.proofs.wrong_ends.picked.Given as goal

-- the diagrams at the places so far
abbrev pub invariant-loop-l : goal.invariant-loop-l
invariant-loop-l l = l.ds ≡ map (λ n. get_or l.ends n 0) (take l.l-index l.places)
