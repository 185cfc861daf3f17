use Rattle.std.proofs.Common.{◌≡◌, ◌++◌}
use Rattle.nk_certtext.proofs.rows.listed.Given as goal

-- the list so far, then the rest, is all rows
abbrev pub invariant-loop-row : goal.invariant-loop-row
invariant-loop-row l = record {
  can_next : goal.iterator-loop-row.can_next l.row-iterator;
  is_finite : goal.iterator-loop-row.is_finite l.row-iterator;
  made : l.list.items ++ l.row-iterator ≡ l.fn.rows.entries;
}
