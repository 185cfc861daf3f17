use Rattle.std.proofs.Common.{◌<◌}
use Rattle.nk_store.proofs.Joins.{IsApart}
use Rattle.nk_store.proofs.parts.are_apart.Given as goal

abbrev pub invariant-loop-i : goal.invariant-loop-i
invariant-loop-i l = (0 < l.i) × IsApart l.parts l.i
