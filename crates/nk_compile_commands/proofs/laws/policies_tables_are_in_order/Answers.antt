use Rattle.nk_compile_commands.proofs.Readable.{policies_in_order}
use Rattle.nk_compile_commands.proofs.laws.policies_tables_are_in_order.Goals as goal

pub returns : goal.returns
returns c = policies_in_order
