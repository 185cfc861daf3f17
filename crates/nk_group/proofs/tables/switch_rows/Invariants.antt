use Rattle.std.proofs.Common.{◌≡◌, ℕ, Some, List, take}
use Rattle.nk_store.specs.StoreState.{Grows}
use Rattle.nk_table.specs.declared.Plain.{Plain}
use Rattle.nk_group.specs.Made.{AreRowsBy}
use Rattle.nk_group.proofs.tables.switch_rows.Given as goal

-- the rows of the tags so far were put
abbrev pub invariant-loop-state : goal.invariant-loop-state
invariant-loop-state g l = record {
  grows : Grows l.fn.st l.st;
  made : (rows : List Plain) × g.S.RowSink.puts l.fn.sink rows l.sink × ((tag : ℕ) → l.fn.st.tag ≡ Some tag → AreRowsBy l.fn.st l.table tag l.s.switch (take l.state-index l.state-items) rows);
}
