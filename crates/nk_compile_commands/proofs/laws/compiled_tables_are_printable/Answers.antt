use Rattle.nk_compile_commands.proofs.Readable.{compiles_printable}
use Rattle.nk_compile_commands.proofs.laws.compiled_tables_are_printable.Goals as goal

pub returns : goal.returns
returns c = compiles_printable
