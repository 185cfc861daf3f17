use Rattle.std.proofs.Common.{take}
use Rattle.nk_determ.specs.Unchanged.{act_fields, AreAmong}
use Rattle.nk_determ.proofs.assigned.add_fields_of.Given as goal

abbrev pub invariant-loop-s : goal.invariant-loop-s
invariant-loop-s l = record { more : AreAmong l.fn.found l.found; has : AreAmong (act_fields (take l.s-index l.sets)) l.found }
