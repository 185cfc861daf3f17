use Rattle.std.proofs.Common.{◌≡◌, ℕ, Some, List, take}
use Rattle.nk_store.specs.StoreState.{Grows}
use Rattle.nk_table.specs.declared.Table.{Table}
use Rattle.nk_group.specs.Matched.{Matched}
use Rattle.nk_group.specs.Made.{IsTableBy}
use Rattle.nk_group.proofs.tables.all_tables.Given as goal

-- the tables of the switches so far were taken
abbrev pub invariant-loop-s : goal.invariant-loop-s
invariant-loop-s g l = record {
  grows : Grows l.fn.st l.st;
  made : (ts : List Table) × g.S.TableSink.takes l.fn.sink ts l.sink × ((tag : ℕ) → l.fn.st.tag ≡ Some tag → Matched (IsTableBy l.fn.st l.table tag) (take l.s-index l.all) ts);
}
