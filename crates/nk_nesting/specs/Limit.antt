-- The limit, over spellings: the 257th parenthesis or `~` that is open at once is refused, and nothing within the limit is.
use Rattle.std.specs.Prelude.{◌≡◌, ◌≤◌, ℕ, List, [], ◌∷◌, ◌++◌, map, length, Ok, Err, All, ⊤, ◌⊎◌}
use Rattle.nk_lex.specs.declared.token.Token.{Token}
use Rattle.nk_grammar.specs.declared.decl.GrammarError.TheVariants as error
use Rattle.nk_grammar.specs.Terminal.{Terminal, tilde, opening, terminal_of}
use Rattle.nk_grammar.specs.File.{Written, declared, spell_file, FileGoesOn}
use Rattle.nk_grammar.specs.FileMachine.{file_of}
use Rattle.nk_grammar.specs.Answer.{terminals}
use Rattle.nk_nesting.specs.Counts.{open_in_file}

-- a `(` or a `~`
abbrev pub IsOpening : Terminal → Type 0
IsOpening (tilde line) = ⊤
IsOpening opening = ⊤
IsOpening t = ⊥

-- after the token that has so many before it 257 are open, and after none before it more than 256
pub record IsFirstAbove (counts : List ℕ) (place : ℕ) : Type 0 where
  pub earlier : List ℕ
  pub later : List ℕ
  pub parts : counts ≡ earlier ++ 257 ∷ later
  pub place_is : length earlier ≡ place
  pub within : All (λ k. k ≤ 256) earlier

-- Each text is within the limit, or has a first token that opens the 257th.
abbrev pub IsWithinOrAbove : Type 0
IsWithinOrAbove = (ws : List Written)
    → All (λ k. k ≤ 256) (open_in_file ws) ⊎ ((place : ℕ) × IsFirstAbove (open_in_file ws) place)

-- The tokens that a text begins with, up to the first that opens the 257th, are refused at that token, whatever stands
-- after it.
abbrev pub RefusesThe257th : Type 0
RefusesThe257th = (ws : List Written) (before : List Token) (t : Token) (more : List Terminal) (rest : List Token)
    → terminals (before ++ t ∷ []) ++ more ≡ spell_file ws → IsFirstAbove (open_in_file ws) (length before)
    → file_of (before ++ t ∷ rest) ≡ Err (error.TooDeep t.line)

-- A text within the limit is read.
abbrev pub ReadsWithinTheLimit : Type 0
ReadsWithinTheLimit = (ts : List Token) (ws : List Written) → terminals ts ≡ spell_file ws
    → All (λ k. k ≤ 256) (open_in_file ws) → file_of ts ≡ Ok (map declared ws)

-- a text begins with the tokens up to this one, a `(` or `~`, and in each such text it is the first that opens the 257th
pub record OpensThe257th (ts : List Token) (line : ℕ) : Type 0 where
  pub before : List Token
  pub token : Token
  pub rest : List Token
  pub parts : ts ≡ before ++ token ∷ rest
  pub line_is : line ≡ token.line
  pub opens : IsOpening (terminal_of token)
  pub goes_on : FileGoesOn (terminals (before ++ token ∷ []))
  pub above : (ws : List Written) (more : List Terminal) → terminals (before ++ token ∷ []) ++ more ≡ spell_file ws
      → IsFirstAbove (open_in_file ws) (length before)

-- Nothing else is refused as too deep.
abbrev pub RefusesOnlyThe257th : Type 0
RefusesOnlyThe257th = (ts : List Token) (line : ℕ) → file_of ts ≡ Err (error.TooDeep line) → OpensThe257th ts line
