use Rattle.std.proofs.Common.{take}
use Rattle.nk_tabtext.specs.Progress.{IsTaken}
use Rattle.nk_tabtext.proofs.reading.read_tables.Given as goal

-- the tokens so far are taken
abbrev pub invariant-loop-token : goal.invariant-loop-token
invariant-loop-token l = IsTaken (take l.token-index l.token-items) l.reader
