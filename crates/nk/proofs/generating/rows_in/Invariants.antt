use Rattle.std.proofs.Common.{◌≡◌, ◌≤◌, ◌*◌, length, take}
use Rattle.std.specs.List.{sum_by}
use Rattle.nk_table.specs.declared.Table.{Table}
use Rattle.nk.proofs.generating.rows_in.Given as goal

-- those of the tables so far, of which each has fewer than 2 ^ 64
abbrev pub invariant-loop-table : goal.invariant-loop-table
invariant-loop-table l = record {
  counted : l.count ≡ sum_by (λ (t : Table). length t.rows) (take l.table-index l.tables);
  small : l.count ≤ l.table-index * 18446744073709551616;
}
