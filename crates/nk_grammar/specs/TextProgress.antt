-- A program's text, read token by token, of which nothing is kept that is done: what is known of the tokens so far, and the
-- declarations that they completed.
use Rattle.std.specs.Prelude.{◌≡◌, ℕ, Bool, true, false, Err, List, ◌++◌}
use Rattle.std.specs.declared.result.Result.{Result}
use Rattle.nk_lex.specs.declared.token.Token.{Token}
use Rattle.nk_grammar.specs.declared.decl.GrammarError.{GrammarError}
use Rattle.nk_grammar.specs.File.{Declaration}
use Rattle.nk_grammar.specs.FileMachine.{Phase, reading, rest_of_file, file_of}

-- what is known of the tokens so far: what may come next and the line of the last token, 1 before the first, or the first fault
pub data TextProgress : Type 0 where
  Going : Phase → (line : ℕ) → TextProgress
  Stopped : GrammarError → TextProgress

-- the declarations of a text that goes on with these tokens, after these declarations, or its first fault
abbrev pub rest_by : TextProgress → List Declaration → List Token → Result (List Declaration) GrammarError
rest_by (Going p line) ds ts = rest_of_file ts (reading p ds) line
rest_by (Stopped e) ds ts = Err e

-- of these tokens this is known, and they completed these declarations: whatever tokens come after them, the declarations of the whole
-- text, or its first fault, are what is left to be read of it after these; after a fault nothing is said of these declarations
abbrev pub IsTextRead : List Token → List Declaration → TextProgress → Type 0
IsTextRead ts ds p = (us : List Token) → rest_by p ds us ≡ file_of (ts ++ us)

-- there is a fault
abbrev pub is_text_stopped : TextProgress → Bool
is_text_stopped (Going p line) = false
is_text_stopped (Stopped e) = true

abbrev pub IsTextStopped : TextProgress → Type 0
IsTextStopped p = is_text_stopped p ≡ true
