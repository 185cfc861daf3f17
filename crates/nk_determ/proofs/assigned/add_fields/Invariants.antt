use Rattle.std.proofs.Common.{take}
use Rattle.nk_determ.specs.Unchanged.{leaf_fields, AreAmong}
use Rattle.nk_determ.proofs.assigned.add_fields.Given as goal

abbrev pub invariant-loop-o : goal.invariant-loop-o
invariant-loop-o l = record { more : AreAmong l.fn.found l.found; has : AreAmong (leaf_fields (take l.o-index l.outs)) l.found }
