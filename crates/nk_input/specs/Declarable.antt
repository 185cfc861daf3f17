-- What a text can declare: the fields and the topology of each text's program.
use Rattle.std.specs.Prelude.{◌≡◌, List, Ok}
use Rattle.nk_lex.specs.declared.token.Token.{Token}
use Rattle.nk_grammar.specs.File.{Declaration}
use Rattle.nk_grammar.specs.FileMachine.{file_of}
use Rattle.nk_names.specs.ProgramOf.{DeclaredProgram, program_of}
use Rattle.nk_names.specs.ReadBack.{IsWritable}
use Rattle.nk_names.specs.Topologies.{IsDeclarable}

-- fields and a topology that a text can declare
pub record CanBeDeclared (said : DeclaredProgram) : Type 0 where
  pub fields : IsWritable said.fields
  pub topology : IsDeclarable said.topo

-- what the declarations say has such
abbrev pub SayDeclared : List Declaration → Type 0
SayDeclared ds = (s : DeclaredProgram) → program_of ds ≡ Ok s → CanBeDeclared s

-- what the tokens say has
abbrev pub TokensSayDeclared : List Token → Type 0
TokensSayDeclared ts = (ds : List Declaration) → file_of ts ≡ Ok ds → SayDeclared ds
