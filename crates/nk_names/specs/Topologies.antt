-- What the topology of a text's program is beside a topology.
use Rattle.std.specs.Prelude.{◌≡◌, List, Ok}
use Rattle.nk_lex.specs.declared.token.Token.{Token}
pub use Rattle.nk_declare.specs.Kept.{IsDeclarable}
use Rattle.nk_grammar.specs.File.{Declaration}
use Rattle.nk_grammar.specs.FileMachine.{file_of}
use Rattle.nk_names.specs.ProgramOf.{DeclaredProgram, program_of}

-- the topology of each text's program is so
abbrev pub DeclaresDeclarable : Type 0
DeclaresDeclarable = (ts : List Token) (ds : List Declaration) (s : DeclaredProgram)
    → file_of ts ≡ Ok ds → program_of ds ≡ Ok s → IsDeclarable s.topo
