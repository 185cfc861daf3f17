use Rattle.nk_store.specs.StoreState.{Grows}
use Rattle.nk_determ.specs.Sets.{SetsGrow}
use Rattle.nk_cert.specs.Values.{row_values}
use Rattle.nk_check.proofs.RowSets.{AreEntriesUpTo}
use Rattle.nk_check.proofs.entries.row_entries.Given as goal

-- the entries of the rows so far
abbrev pub invariant-loop-row : goal.invariant-loop-row
invariant-loop-row l = record {
  grows : Grows l.fn.st l.st;
  sets : SetsGrow l.fn.ss l.ss;
  made : AreEntriesUpTo l.st l.ss l.count (row_values l.rows) l.row-index l.entries;
}
