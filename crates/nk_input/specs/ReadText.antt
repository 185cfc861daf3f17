-- What reading a program's text gives.
use Rattle.std.specs.Prelude.{◌≡◌, ℕ, List, Ok}
use Rattle.nk_lex.specs.declared.token.Token.{Token}
use Rattle.nk_lex.specs.declared.token.LexError.{LexError}
use Rattle.nk_lex.specs.Lex.{tokens_of}
use Rattle.nk_grammar.specs.declared.decl.GrammarError.{GrammarError}
use Rattle.nk_grammar.specs.File.{Declaration}
use Rattle.nk_grammar.specs.FileMachine.{file_of}
use Rattle.nk_names.specs.declared.Program.{Program}
use Rattle.nk_names.specs.ProgramOf.{program_of, program_by}
use Rattle.nk_input.specs.declared.program_text.ReadText.{ReadText}
use Rattle.nk_input.specs.declared.program_text.ReadText.TheVariants as read
use Rattle.nk_input.specs.Declarable.{CanBeDeclared}
use Rattle.nk_names.specs.Messages.{fault_line}
use Rattle.nk_input.specs.ProgramText.{HasFault, IsFaultOfNames, IsFaultOfTokens, TellsGrammar, TellsLexical}

-- the program is what the declarations say, with fields and a topology that a text can declare
pub record IsOfDeclarations (declarations : List Declaration) (program : Program) : Type 0 where
  pub declared : CanBeDeclared (program_by program)
  pub means : program_of declarations ≡ Ok (program_by program)

-- the tokens give declarations, and these give the program, as above
pub record IsOfTokens (tokens : List Token) (program : Program) : Type 0 where
  pub declarations : List Declaration
  pub read : file_of tokens ≡ Ok declarations
  pub of : IsOfDeclarations declarations program

-- the bytes give tokens, and these give the program, as above
pub record IsOfBytes (bytes : List ℕ) (program : Program) : Type 0 where
  pub tokens : List Token
  pub cut : tokens_of bytes ≡ Ok tokens
  pub of : IsOfTokens tokens program

-- a fault is read, and the line tells it with these words
abbrev pub IsFaultLine : ℕ → List ℕ → ReadText → Type 0
IsFaultLine line words (read.Program program) = ⊥
IsFaultLine line words (read.Fault text) = text.items ≡ fault_line line words

-- a lexical fault is read, and the line tells it
abbrev pub IsLexicalFault : LexError → ReadText → Type 0
IsLexicalFault e (read.Program program) = ⊥
IsLexicalFault e (read.Fault text) = TellsLexical e text.items

-- so it is with a fault of the tokens
abbrev pub IsGrammarFault : GrammarError → ReadText → Type 0
IsGrammarFault e (read.Program program) = ⊥
IsGrammarFault e (read.Fault text) = TellsGrammar e text.items

-- what is read of declarations
abbrev pub IsReadOfNames : List Declaration → ReadText → Type 0
IsReadOfNames declarations (read.Program program) = IsOfDeclarations declarations program
IsReadOfNames declarations (read.Fault text) = IsFaultOfNames (program_of declarations) text.items

-- of tokens
abbrev pub IsReadOfTokens : List Token → ReadText → Type 0
IsReadOfTokens tokens (read.Program program) = IsOfTokens tokens program
IsReadOfTokens tokens (read.Fault text) = IsFaultOfTokens (file_of tokens) text.items

-- and of the bytes of a text
abbrev pub IsReadOf : List ℕ → ReadText → Type 0
IsReadOf bytes (read.Program program) = IsOfBytes bytes program
IsReadOf bytes (read.Fault text) = HasFault bytes text.items
