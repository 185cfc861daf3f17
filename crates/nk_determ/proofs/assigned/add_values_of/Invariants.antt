use Rattle.std.proofs.Common.{◌≡◌, ◌++◌, take}
use Rattle.nk_determ.specs.Unchanged.{act_values}
use Rattle.nk_determ.proofs.assigned.add_values_of.Given as goal

abbrev pub invariant-loop-s : goal.invariant-loop-s
invariant-loop-s l = l.found ≡ l.fn.found ++ act_values l.f (take l.s-index l.sets)
