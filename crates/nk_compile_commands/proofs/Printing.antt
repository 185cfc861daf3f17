-- What is printed for the program of a text is read back.
use Rattle.std.proofs.Common.{◌≡◌, ℕ, List, refl, ap, ◌∙◌}
use Rattle.nk_names.specs.declared.Program.{Program}
use Rattle.nk_names.specs.ProgramOf.{program_by}
use Rattle.nk_names.specs.ProgramValue.{IsProgram}
use Rattle.nk_table.specs.declared.Tables.{Tables}
use Rattle.nk_tabtext.specs.ReadBack.{ReadsPrintedTables}
use Rattle.nk_tabtext.specs.Text.{table_bytes}
use Rattle.nk_tabtext.specs.Values.{tables_of}
use Rattle.nk_compile.specs.Headline.{IsCompiled}
use Rattle.nk_compile_commands.specs.TextTables.{CompilesPrintable}
use Rattle.nk_compile_commands.specs.Compiling.{IsCompiledText}
use Rattle.nk_input.specs.Declarable.{CanBeDeclared}

-- what is printed for a program with such fields and topology is read back
pub is_printed :
    CompilesPrintable → ReadsPrintedTables → (program : Program) (name text : List ℕ) (t : Tables)
    → IsProgram program.fields program.topo program.lets → CanBeDeclared (program_by program)
    → IsCompiled program name t → text ≡ table_bytes t → IsCompiledText (program_by program) name text
is_printed printable reads program name text t ok declared compiled printed = record {
  program = program;
  says = refl;
  tables = t;
  compiled = compiled;
  printed = printed;
  read = λ few. ap tables_of printed ∙ (reads t (printable program name t ok declared.fields declared.topology compiled few)).read;
}
