-- The grammar of texts with a certificate.
use Rattle.std.specs.Prelude.{◌≡◌, ◌≤◌, ℕ, List, [], ◌∷◌, ◌++◌, map, All}
use Rattle.nk_lex.specs.Lex.{largest}
use Rattle.nk_lex.specs.declared.ident.Number.{Number}
use Rattle.nk_grammar.specs.declared.decl.CertRow.{CertRow}
use Rattle.nk_grammar.specs.Terminal.{Terminal, number, colon, outside, certificate_word, row_word, start_word}
use Rattle.nk_grammar.specs.Tree.{Tree, tree_of}
use Rattle.nk_grammar.specs.Grammar.{Pol, spell_pol, pol_tree}
use Rattle.nk_grammar.specs.File.{Declaration, declared, Written, spell_file}

-- a row of a certificate; the start row has no positions
pub data Row : Type 0 where
  row : (positions : List ℕ) → Tree → (line : ℕ) → Row

-- the plain value of a row that the program holds
abbrev pub row_value : CertRow → Row
row_value r = row r.positions (tree_of r.pred) r.line

-- more : row NUMBER+ : pol
pub data WrittenRow : Type 0 where
  written_row : (line : ℕ) → (first : Number) → (more : List Number) → Pol → WrittenRow

-- numbers, one after the other
abbrev pub spell_numbers : List Number → List Terminal
spell_numbers [] = []
spell_numbers (n ∷ ns) = number n ∷ spell_numbers ns

-- the tokens of a row
abbrev pub spell_row : WrittenRow → List Terminal
spell_row (written_row line n ns p) = outside (row_word line) ∷ number n ∷ (spell_numbers ns ++ colon ∷ spell_pol p)

-- the tokens of rows, one after the other
abbrev pub spell_rows : List WrittenRow → List Terminal
spell_rows [] = []
spell_rows (r ∷ rs) = spell_row r ++ spell_rows rs

-- the numbers alone
abbrev pub number_value : Number → ℕ
number_value n = n.value

-- what a row says
abbrev pub row_of : WrittenRow → Row
row_of (written_row line n ns p) = row (n.value ∷ map number_value ns) (pol_tree p) line

-- start : row start : pol, and then the other rows
abbrev pub spell_certificate : ℕ → Pol → List WrittenRow → List Terminal
spell_certificate line p rs = outside (row_word line) ∷ outside start_word ∷ colon ∷ (spell_pol p ++ spell_rows rs)

-- what a certificate says, the start row first
abbrev pub rows_said : ℕ → Pol → List WrittenRow → List Row
rows_said line p rs = row [] (pol_tree p) line ∷ map row_of rs

-- the declarations and rows of a text
pub record Certified : Type 0 where
  pub declarations : List Declaration
  pub rows : List Row

-- the record by its parts
abbrev pub certified : List Declaration → List Row → Certified
certified ds rs = record { declarations = ds; rows = rs }

-- the tokens are those of a text with these declarations and this certificate
-- file : decl* certificate start more*
pub record HasCertificate (ts : List Terminal) (c : Certified) : Type 0 where
  pub decls : List Written
  pub line : ℕ
  pub pred : Pol
  pub others : List WrittenRow
  pub tokens : ts ≡ spell_file decls ++ outside certificate_word ∷ spell_certificate line pred others
  pub value : c ≡ certified (map declared decls) (rows_said line pred others)

-- a text with a certificate goes on with these tokens
abbrev pub CertifiedGoesOn : List Terminal → Type 0
CertifiedGoesOn ts = (more : List Terminal) × (c : Certified) × HasCertificate (ts ++ more) c

-- what is read from the tokens of a text: a row's positions are numbers of a text
abbrev pub IsWrittenRow : Row → Type 0
IsWrittenRow (row ns p line) = All (λ n. n ≤ largest) ns
