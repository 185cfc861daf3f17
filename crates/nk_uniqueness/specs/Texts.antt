-- What each text's program has.
use Rattle.std.specs.Prelude.{◌≡◌, ℕ, Ok, List}
use Rattle.nk_lex.specs.declared.token.Token.{Token}
use Rattle.nk_lex.specs.Lex.{tokens_of}
use Rattle.nk_grammar.specs.File.{Declaration}
use Rattle.nk_grammar.specs.FileMachine.{file_of}
use Rattle.nk_names.specs.ProgramOf.{DeclaredProgram, program_of}
use Rattle.nk_uniqueness.specs.Packets.{HavePackets}

-- the fields and the topology of each text's program have packets at each switch
abbrev pub TextsHavePackets : Type 0
TextsHavePackets = (text : List ℕ) (ts : List Token) (ds : List Declaration) (s : DeclaredProgram)
    → tokens_of text ≡ Ok ts → file_of ts ≡ Ok ds → program_of ds ≡ Ok s → HavePackets s.fields s.topo
