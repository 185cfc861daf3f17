use Rattle.std.proofs.Common.{◌≡◌, drop}
use Rattle.nk_table.specs.Rules.{groups_at_switch}
use Rattle.nk_openflow_commands.proofs.answer.groups_at.Given as goal

-- the switch has none of the tables passed
abbrev pub invariant-loop-table : goal.invariant-loop-table
invariant-loop-table l = groups_at_switch (drop l.table-index l.tables) l.switch ≡ groups_at_switch l.tables l.switch
