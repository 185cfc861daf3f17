use Rattle.std.proofs.Common.{◌≡◌, drop}
use Rattle.nk_sim.specs.Emitted.{table_of}
use Rattle.nk_sim.proofs.sending.table_at.Given as goal

-- the switch's table is among those that are left
abbrev pub invariant-loop-table : goal.invariant-loop-table
invariant-loop-table l = table_of (drop l.table-index l.tables) l.switch ≡ table_of l.tables l.switch
