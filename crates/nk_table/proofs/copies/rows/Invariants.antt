use Rattle.std.proofs.Common.{◌≡◌, take}
use Rattle.nk_table.proofs.copies.rows.Given as goal

-- the ones so far are copied
abbrev pub invariant-loop-row : goal.invariant-loop-row
invariant-loop-row l = l.copies ≡ take l.row-index l.all
