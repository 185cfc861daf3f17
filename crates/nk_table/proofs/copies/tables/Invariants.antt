use Rattle.std.proofs.Common.{◌≡◌, take}
use Rattle.nk_table.proofs.copies.tables.Given as goal

-- the ones so far are copied
abbrev pub invariant-loop-table : goal.invariant-loop-table
invariant-loop-table l = l.copies ≡ take l.table-index l.all
