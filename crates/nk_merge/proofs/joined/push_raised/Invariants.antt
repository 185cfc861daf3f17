use Rattle.std.proofs.Common.{◌≡◌, ◌+◌, ◌++◌, take}
use Rattle.std.specs.Prelude.{map}
use Rattle.nk_merge.proofs.joined.push_raised.Given as goal

-- the labels so far stand after the others, raised
abbrev pub invariant-loop-l : goal.invariant-loop-l
invariant-loop-l l = l.all ≡ l.fn.all ++ map (λ n. n + l.by) (take l.l-index l.labels)
