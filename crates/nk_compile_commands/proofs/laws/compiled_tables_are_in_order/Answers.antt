use Rattle.nk_compile_commands.proofs.Readable.{compiles_in_order}
use Rattle.nk_compile_commands.proofs.laws.compiled_tables_are_in_order.Goals as goal

pub returns : goal.returns
returns c = compiles_in_order
