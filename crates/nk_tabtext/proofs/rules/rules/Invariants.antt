use Rattle.std.proofs.Common.{◌≡◌, drop}
use Rattle.nk_table.specs.Rules.{rows_of, groups_at_switch}
use Rattle.nk_tabtext.proofs.rules.rules.Given as goal

-- nothing is made, and the switch has none of the tables passed
abbrev pub invariant-loop-table : goal.invariant-loop-table
invariant-loop-table l =
    (l.out.items ≡ l.fn.out.items)
    × (rows_of (drop l.table-index l.tables) l.sw ≡ rows_of l.tables l.sw)
    × (groups_at_switch (drop l.table-index l.tables) l.sw ≡ groups_at_switch l.tables l.sw)
