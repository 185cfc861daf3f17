use Rattle.std.proofs.Common.{take}
use Rattle.nk_cert.specs.FromLevels.{HaveRows}
use Rattle.nk_cert.specs.Values.{row_values}
use Rattle.nk_cert.specs.Later.{IsRowBy}
use Rattle.nk_cert.proofs.printed.set_rows.Given as goal

-- the rows of the sets so far
abbrev pub invariant-loop-set : goal.invariant-loop-set
invariant-loop-set l = HaveRows (IsRowBy l.st l.ss l.visited l.none) (take l.set-index l.sets) (row_values l.rows)
