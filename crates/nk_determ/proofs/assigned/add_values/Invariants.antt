use Rattle.std.proofs.Common.{◌≡◌, ◌++◌, take}
use Rattle.nk_determ.specs.Unchanged.{leaf_values}
use Rattle.nk_determ.proofs.assigned.add_values.Given as goal

abbrev pub invariant-loop-o : goal.invariant-loop-o
invariant-loop-o l = l.found ≡ l.fn.found ++ leaf_values l.f (take l.o-index l.outs)
