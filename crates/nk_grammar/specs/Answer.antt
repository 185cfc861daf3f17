-- What reading a text's tokens answers, in the grammar's own words.
use Rattle.std.specs.Prelude.{◌≡◌, ◌<◌, ℕ, List, [], ◌∷◌, ◌++◌, map, Some, Ok, Err, ◌⊎◌}
use Rattle.std.specs.declared.result.Result.{Result}
use Rattle.nk_lex.specs.declared.token.Token.{Token}
use Rattle.nk_lex.specs.Spans.{last_line}
use Rattle.nk_grammar.specs.declared.decl.GrammarError.{GrammarError}
use Rattle.nk_grammar.specs.declared.decl.GrammarError.TheVariants as error
use Rattle.nk_grammar.specs.Terminal.{Terminal, terminal_of}
use Rattle.nk_grammar.specs.File.{Declaration, HasDeclarations, FileGoesOn}
use Rattle.nk_grammar.specs.FileMachine.{Reading, read_all, first_reading, open_count, file_of}

-- the tokens as the grammar sees them
abbrev pub terminals : List Token → List Terminal
terminals ts = map terminal_of ts

-- after these tokens more than 256 parentheses and `~` are open
abbrev pub IsTooDeep : List Terminal → Type 0
IsTooDeep ts = (r : Reading) × (read_all ts first_reading ≡ Some r) × (256 < open_count r)

-- after no front of these tokens more than 256 are open
abbrev pub IsShallow : List Terminal → Type 0
IsShallow ts = (xs ys : List Terminal) → ts ≡ xs ++ ys → IsTooDeep xs → ⊥

-- a text goes on with the tokens before this one, and with it none does
pub record IsUnexpectedToken (ts : List Token) (line : ℕ) : Type 0 where
  pub before : List Token
  pub token : Token
  pub rest : List Token
  pub parts : ts ≡ before ++ token ∷ rest
  pub line_is : line ≡ token.line
  pub shallow : IsShallow (terminals before)
  pub goes_on : FileGoesOn (terminals before)
  pub stops : FileGoesOn (terminals (before ++ token ∷ [])) → ⊥

-- a text goes on with the tokens, and they are none
pub record IsUnexpectedEnd (ts : List Token) (line : ℕ) : Type 0 where
  pub line_is : line ≡ last_line 1 ts
  pub shallow : IsShallow (terminals ts)
  pub goes_on : FileGoesOn (terminals ts)
  pub no_text : (ds : List Declaration) → HasDeclarations (terminals ts) ds → ⊥

-- a text goes on with the tokens up to this one, which opens one more than 256
pub record IsDeepToken (ts : List Token) (line : ℕ) : Type 0 where
  pub before : List Token
  pub token : Token
  pub rest : List Token
  pub parts : ts ≡ before ++ token ∷ rest
  pub line_is : line ≡ token.line
  pub shallow : IsShallow (terminals before)
  pub goes_on : FileGoesOn (terminals (before ++ token ∷ []))
  pub deep : IsTooDeep (terminals (before ++ token ∷ []))

-- the declarations, or the first fault
abbrev pub IsParse : List Token → Result (List Declaration) GrammarError → Type 0
IsParse ts (Ok ds) = HasDeclarations (terminals ts) ds × IsShallow (terminals ts)
IsParse ts (Err (error.Unexpected line)) = IsUnexpectedToken ts line ⊎ IsUnexpectedEnd ts line
IsParse ts (Err (error.TooDeep line)) = IsDeepToken ts line
IsParse ts (Err error.NoMemory) = ⊥

-- what reading answers is that
abbrev pub AnswersTexts : Type 0
AnswersTexts = (ts : List Token) → IsParse ts (file_of ts)

-- the tokens of a text are those of no other
abbrev pub IsUnique : Type 0
IsUnique = (ts : List Terminal) (ds es : List Declaration) → HasDeclarations ts ds → HasDeclarations ts es → ds ≡ es
