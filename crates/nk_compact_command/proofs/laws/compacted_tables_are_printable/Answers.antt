use Rattle.nk_compact_command.proofs.ReadableClasses.{compacts_printable}
use Rattle.nk_compact_command.proofs.laws.compacted_tables_are_printable.Goals as goal

pub returns : goal.returns
returns c = compacts_printable
