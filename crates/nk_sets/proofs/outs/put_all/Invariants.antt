use Rattle.std.proofs.Common.{◌≡◌, ◌++◌, map, take}
use Rattle.nk_sets.specs.Outs.{stretch}
use Rattle.nk_sets.proofs.outs.put_all.Given as goal

abbrev pub invariant-loop-e : goal.invariant-loop-e
invariant-loop-e l = l.all ≡ l.fn.all ++ map (stretch l.from l.end) (take l.e-index l.es)
