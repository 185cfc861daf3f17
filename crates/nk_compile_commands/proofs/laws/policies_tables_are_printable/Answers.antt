use Rattle.nk_compile_commands.proofs.Readable.{policies_printable}
use Rattle.nk_compile_commands.proofs.laws.policies_tables_are_printable.Goals as goal

pub returns : goal.returns
returns c = policies_printable
