use Rattle.std.proofs.Common.{◌≤◌, ◌-◌, length, drop}
use Rattle.nk_tabtext.specs.Text.{AreTablesFrom}
use Rattle.nk_tabtext.proofs.rules.without_lesser.Given as goal

-- the tables from the place on are what is left
abbrev pub invariant-loop-place : goal.invariant-loop-place
invariant-loop-place l = record {
  within : l.place ≤ length l.tables;
  left : AreTablesFrom l.sw l.tables (drop l.place l.tables);
}

abbrev pub decreases-loop-place : goal.decreases-loop-place
decreases-loop-place l = length l.tables - l.place
