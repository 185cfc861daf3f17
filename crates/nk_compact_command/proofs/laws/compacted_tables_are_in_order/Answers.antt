use Rattle.nk_compact_command.proofs.ReadableClasses.{compacts_in_order}
use Rattle.nk_compact_command.proofs.laws.compacted_tables_are_in_order.Goals as goal

pub returns : goal.returns
returns c = compacts_in_order
