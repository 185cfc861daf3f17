use Rattle.std.proofs.Common.{◌≡◌, drop}
use Rattle.nk_table.specs.Rules.{rows_of}
use Rattle.nk_table.proofs.search.rows_at.Given as goal

-- the switch has none of the tables passed
abbrev pub invariant-loop-table : goal.invariant-loop-table
invariant-loop-table l = rows_of (drop l.table-index l.tables) l.switch ≡ rows_of l.tables l.switch
