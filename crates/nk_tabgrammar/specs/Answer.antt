-- What reading a text's tokens answers, in the grammar's own words.
use Rattle.std.specs.Prelude.{◌≡◌, ℕ, List, [], ◌∷◌, ◌++◌, map, Ok, Err, ◌⊎◌}
use Rattle.std.specs.declared.result.Result.{Result}
use Rattle.nk_lex.specs.declared.token.Token.{Token}
use Rattle.nk_tabgrammar.specs.declared.written.WrittenTables.{WrittenTables}
use Rattle.nk_tabgrammar.specs.declared.written.ReadError.{ReadError}
use Rattle.nk_tabgrammar.specs.declared.written.ReadError.TheVariants as error
use Rattle.nk_tabgrammar.specs.Terminal.{Terminal, table_terminal_of}
use Rattle.nk_tabgrammar.specs.Spelling.{spell_text, TableTextGoesOn}
use Rattle.nk_tabgrammar.specs.Machine.{written_of}
use Rattle.nk_lex.specs.Spans.{last_line}

-- the tokens as the grammar sees them
abbrev pub table_terminals : List Token → List Terminal
table_terminals ts = map table_terminal_of ts

-- a text goes on with the tokens before this one, and with it none does
pub record IsUnexpectedToken (ts : List Token) (line : ℕ) : Type 0 where
  pub before : List Token
  pub token : Token
  pub rest : List Token
  pub parts : ts ≡ before ++ token ∷ rest
  pub line_is : line ≡ token.line
  pub goes_on : TableTextGoesOn (table_terminals before)
  pub stops : TableTextGoesOn (table_terminals (before ++ token ∷ [])) → ⊥

-- a text goes on with the tokens, and they are none
pub record IsUnexpectedEnd (ts : List Token) (line : ℕ) : Type 0 where
  pub line_is : line ≡ last_line 1 ts
  pub goes_on : TableTextGoesOn (table_terminals ts)
  pub no_text : (x : WrittenTables) → table_terminals ts ≡ spell_text x → ⊥

-- what is written, or the first fault
abbrev pub IsTableParse : List Token → Result WrittenTables ReadError → Type 0
IsTableParse ts (Ok x) = table_terminals ts ≡ spell_text x
IsTableParse ts (Err (error.Unexpected line)) = IsUnexpectedToken ts line ⊎ IsUnexpectedEnd ts line
IsTableParse ts (Err e) = ⊥

-- what reading answers is that
abbrev pub AnswersTableTexts : Type 0
AnswersTableTexts = (ts : List Token) → IsTableParse ts (written_of ts)

-- tokens that spell what is written are read as it
abbrev pub ReadsTableTexts : Type 0
ReadsTableTexts = (ts : List Token) (x : WrittenTables) → table_terminals ts ≡ spell_text x → written_of ts ≡ Ok x

-- nothing else has the same spelling
abbrev pub IsUniquelySpelled : Type 0
IsUniquelySpelled = (x y : WrittenTables) → spell_text x ≡ spell_text y → x ≡ y
