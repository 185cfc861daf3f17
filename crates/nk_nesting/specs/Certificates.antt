-- How many parentheses and `~` are open after each token of a text with a certificate, and the limit of 256.
use Rattle.std.specs.Prelude.{◌≡◌, ◌≤◌, ℕ, List, [], ◌∷◌, ◌++◌, map, length, Ok, Err, All, ◌⊎◌}
use Rattle.nk_lex.specs.declared.token.Token.{Token}
use Rattle.nk_lex.specs.declared.ident.Number.{Number}
use Rattle.nk_grammar.specs.declared.decl.GrammarError.TheVariants as error
use Rattle.nk_grammar.specs.Terminal.{Terminal, outside, certificate_word, terminal_of}
use Rattle.nk_grammar.specs.Grammar.{Pol}
use Rattle.nk_grammar.specs.File.{Written, declared, spell_file}
use Rattle.nk_grammar.specs.Answer.{terminals}
use Rattle.nk_grammar.specs.Certified.{WrittenRow, written_row, spell_certificate, rows_said, certified, CertifiedGoesOn}
use Rattle.nk_grammar.specs.CertifiedMachine.{certified_of}
use Rattle.nk_nesting.specs.Counts.{open_in_pol, open_in_file, GoWith}
use Rattle.nk_nesting.specs.Limit.{IsOpening, IsFirstAbove}

-- a text with a certificate, as it is written
pub record WrittenCertified : Type 0 where
  pub decls : List Written
  pub line : ℕ
  pub pred : Pol
  pub others : List WrittenRow

-- its tokens
abbrev pub spell_certified : WrittenCertified → List Terminal
spell_certified c = spell_file c.decls ++ outside certificate_word ∷ spell_certificate c.line c.pred c.others

-- after each of a row's numbers
abbrev pub open_in_numbers : List Number → List ℕ
open_in_numbers [] = []
open_in_numbers (n ∷ ns) = 0 ∷ open_in_numbers ns

-- after each token of a row: nothing is open but in its policy
abbrev pub open_in_row : WrittenRow → List ℕ
open_in_row (written_row line n ns p) = 0 ∷ 0 ∷ (open_in_numbers ns ++ 0 ∷ open_in_pol 0 p)

-- after each token of rows
abbrev pub open_in_rows : List WrittenRow → List ℕ
open_in_rows [] = []
open_in_rows (r ∷ rs) = open_in_row r ++ open_in_rows rs

-- after each token of the text
abbrev pub open_in_certified : WrittenCertified → List ℕ
open_in_certified c = open_in_file c.decls ++ 0 ∷ 0 ∷ 0 ∷ 0 ∷ (open_in_pol 0 c.pred ++ open_in_rows c.others)

-- the counts go with the tokens
abbrev pub CertifiedCountsGoWithTokens : Type 0
CertifiedCountsGoWithTokens = (c : WrittenCertified) → GoWith 0 (open_in_certified c) (spell_certified c)

-- Each text with a certificate is within the limit, or has a first token that opens the 257th.
abbrev pub IsCertifiedWithinOrAbove : Type 0
IsCertifiedWithinOrAbove = (c : WrittenCertified)
    → All (λ k. k ≤ 256) (open_in_certified c) ⊎ ((place : ℕ) × IsFirstAbove (open_in_certified c) place)

-- The tokens that a text with a certificate begins with, up to the first that opens the 257th, are refused at that token,
-- whatever stands after it.
abbrev pub RefusesTheCertified257th : Type 0
RefusesTheCertified257th = (c : WrittenCertified) (before : List Token) (t : Token) (more : List Terminal) (rest : List Token)
    → terminals (before ++ t ∷ []) ++ more ≡ spell_certified c → IsFirstAbove (open_in_certified c) (length before)
    → certified_of (before ++ t ∷ rest) ≡ Err (error.TooDeep t.line)

-- A text within the limit is read.
abbrev pub ReadsCertifiedWithinTheLimit : Type 0
ReadsCertifiedWithinTheLimit = (ts : List Token) (c : WrittenCertified) → terminals ts ≡ spell_certified c
    → All (λ k. k ≤ 256) (open_in_certified c)
    → certified_of ts ≡ Ok (certified (map declared c.decls) (rows_said c.line c.pred c.others))

-- such a text begins with the tokens up to this one, a `(` or `~`, and in each such text it is the first that opens the 257th
pub record OpensTheCertified257th (ts : List Token) (line : ℕ) : Type 0 where
  pub before : List Token
  pub token : Token
  pub rest : List Token
  pub parts : ts ≡ before ++ token ∷ rest
  pub line_is : line ≡ token.line
  pub opens : IsOpening (terminal_of token)
  pub goes_on : CertifiedGoesOn (terminals (before ++ token ∷ []))
  pub above : (c : WrittenCertified) (more : List Terminal) → terminals (before ++ token ∷ []) ++ more ≡ spell_certified c
      → IsFirstAbove (open_in_certified c) (length before)

-- Nothing else is refused as too deep.
abbrev pub RefusesOnlyTheCertified257th : Type 0
RefusesOnlyTheCertified257th = (ts : List Token) (line : ℕ) → certified_of ts ≡ Err (error.TooDeep line)
    → OpensTheCertified257th ts line
