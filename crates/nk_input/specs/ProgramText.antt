-- What the bytes of a program's text are: the program that they declare, or the text's first fault.
use Rattle.std.specs.Prelude.{◌≡◌, ℕ, List, Ok, Err, codes}
use Rattle.std.specs.declared.result.Result.{Result}
use Rattle.nk_lex.specs.declared.token.Token.{Token}
use Rattle.nk_lex.specs.declared.token.LexError.{LexError}
use Rattle.nk_lex.specs.declared.token.LexError.TheVariants as lexical
use Rattle.nk_lex.specs.Lex.{tokens_of}
use Rattle.nk_grammar.specs.declared.decl.GrammarError.{GrammarError}
use Rattle.nk_grammar.specs.declared.decl.GrammarError.TheVariants as grammar
use Rattle.nk_grammar.specs.File.{Declaration}
use Rattle.nk_grammar.specs.FileMachine.{file_of}
use Rattle.nk_names.specs.declared.fault.NamesError.{NamesError}
use Rattle.nk_names.specs.declared.fault.NamesError.TheVariants as naming
use Rattle.nk_names.specs.ProgramOf.{DeclaredProgram, program_of}
use Rattle.nk_names.specs.Messages.{fault_message_of, fault_line}

-- the bytes are a text that declares this
pub record Declares (bytes : List ℕ) (said : DeclaredProgram) : Type 0 where
  pub tokens : List Token
  pub cut : tokens_of bytes ≡ Ok tokens
  pub declarations : List Declaration
  pub read : file_of tokens ≡ Ok declarations
  pub means : program_of declarations ≡ Ok said

-- the line that tells the first fault of the bytes of a text. Want of memory is no fault of a text.
abbrev pub TellsLexical : LexError → List ℕ → Type 0
TellsLexical (lexical.BadByte line) text = text ≡ fault_line line (codes "bad byte")
TellsLexical (lexical.NumberTooLarge line) text = text ≡ fault_line line (codes "number too large")
TellsLexical lexical.NoMemory text = ⊥

-- the line that tells the first fault of its tokens
abbrev pub TellsGrammar : GrammarError → List ℕ → Type 0
TellsGrammar (grammar.Unexpected line) text = text ≡ fault_line line (codes "unexpected")
TellsGrammar (grammar.TooDeep line) text = text ≡ fault_line line (codes "too deep")
TellsGrammar grammar.NoMemory text = ⊥

-- the line that tells the first fault of its declarations
abbrev pub TellsNames : NamesError → List ℕ → Type 0
TellsNames (naming.Fault kind line) text = text ≡ fault_line line (fault_message_of kind)
TellsNames naming.NoMemory text = ⊥

-- the declarations have a fault, and the line tells the first one
abbrev pub IsFaultOfNames : Result DeclaredProgram NamesError → List ℕ → Type 0
IsFaultOfNames (Ok said) text = ⊥
IsFaultOfNames (Err e) text = TellsNames e text

-- the grammar has a fault, or else the declarations have one, and the line tells the first one
abbrev pub IsFaultOfTokens : Result (List Declaration) GrammarError → List ℕ → Type 0
IsFaultOfTokens (Ok declarations) text = IsFaultOfNames (program_of declarations) text
IsFaultOfTokens (Err e) text = TellsGrammar e text

-- there is a lexical fault, or else one of the grammar or of the declarations, and the line tells the first one
abbrev pub IsFaultOfBytes : Result (List Token) LexError → List ℕ → Type 0
IsFaultOfBytes (Ok tokens) text = IsFaultOfTokens (file_of tokens) text
IsFaultOfBytes (Err e) text = TellsLexical e text

-- the bytes are no text of a program, and the line tells the first fault
abbrev pub HasFault : List ℕ → List ℕ → Type 0
HasFault bytes text = IsFaultOfBytes (tokens_of bytes) text
