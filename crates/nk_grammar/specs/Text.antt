-- The text of a policy as it is written: ` + ` between terms, `;` between factors, ` in ` in a range, and nothing else between
-- tokens; and that of a `let`, on one line.
use Rattle.std.specs.Prelude.{◌≡◌, ◌≤◌, ℕ, List, [], ◌∷◌, ◌++◌, Ok, codes, ⊤}
use Rattle.nk_lex.specs.declared.token.Token.{Token}
use Rattle.nk_lex.specs.Lex.{largest, tokens_of}
use Rattle.nk_lex.specs.Spelling.{Sign, Lexeme, IsName, text_of}
use Rattle.nk_lex.specs.declared.ident.Ident.{Ident}
use Rattle.nk_lex.specs.declared.ident.Number.{Number}
use Rattle.nk_grammar.specs.Grammar.{Pol, Term, Factor, Atom, one_term, plus, one_factor, semi, plain, starred, written_not, written_id, written_drop, written_dup, written_name, written_test, written_range, written_set, written_link, paren, pol_tree}
use Rattle.nk_grammar.specs.File.{definition}
use Rattle.nk_grammar.specs.FileMachine.{file_of}
use Rattle.nk_grammar.specs.Nesting.{nesting_of_pol}

abbrev mutual
  -- the lexemes of a policy's text
  pub lexemes_of_pol : Pol → List Lexeme
  lexemes_of_pol (one_term t) = lexemes_of_term t
  lexemes_of_pol (plus p t) =
      lexemes_of_pol p ++ Lexeme.space ∷ Lexeme.sign Sign.plus ∷ Lexeme.space ∷ lexemes_of_term t

  pub lexemes_of_term : Term → List Lexeme
  lexemes_of_term (one_factor f) = lexemes_of_factor f
  lexemes_of_term (semi t f) = lexemes_of_term t ++ Lexeme.sign Sign.semicolon ∷ lexemes_of_factor f

  pub lexemes_of_factor : Factor → List Lexeme
  lexemes_of_factor (plain a) = lexemes_of_atom a
  lexemes_of_factor (starred f) = lexemes_of_factor f ++ Lexeme.sign Sign.star ∷ []

  pub lexemes_of_atom : Atom → List Lexeme
  lexemes_of_atom (written_not line a) = Lexeme.sign Sign.tilde ∷ lexemes_of_atom a
  lexemes_of_atom written_id = Lexeme.word (codes "id") ∷ []
  lexemes_of_atom written_drop = Lexeme.word (codes "drop") ∷ []
  lexemes_of_atom written_dup = Lexeme.word (codes "dup") ∷ []
  lexemes_of_atom (written_name w) = Lexeme.word w.text ∷ []
  lexemes_of_atom (written_test w n) = Lexeme.word w.text ∷ Lexeme.sign Sign.equal ∷ Lexeme.numeral n.value ∷ []
  lexemes_of_atom (written_range w a b) =
      Lexeme.word w.text ∷ Lexeme.space ∷ Lexeme.word (codes "in") ∷ Lexeme.space ∷ Lexeme.numeral a.value
      ∷ Lexeme.sign Sign.dots ∷ Lexeme.numeral b.value ∷ []
  lexemes_of_atom (written_set w n) = Lexeme.word w.text ∷ Lexeme.sign Sign.becomes ∷ Lexeme.numeral n.value ∷ []
  lexemes_of_atom (written_link a m b n) =
      Lexeme.numeral a.value ∷ Lexeme.sign Sign.colon ∷ Lexeme.numeral m.value ∷ Lexeme.sign Sign.fat_arrow
      ∷ Lexeme.numeral b.value ∷ Lexeme.sign Sign.colon ∷ Lexeme.numeral n.value ∷ []
  lexemes_of_atom (paren p) =
      Lexeme.sign Sign.open_parenthesis ∷ lexemes_of_pol p ++ Lexeme.sign Sign.close_parenthesis ∷ []

-- the lexemes of `let NAME = `, and then the policy's
abbrev pub lexemes_of_let : Ident → Pol → List Lexeme
lexemes_of_let w p =
    Lexeme.word (codes "let") ∷ Lexeme.space ∷ Lexeme.word w.text ∷ Lexeme.space ∷ Lexeme.sign Sign.equal ∷ Lexeme.space
    ∷ lexemes_of_pol p

-- a name that is one, on this line
abbrev pub IsWordOn : ℕ → Ident → Type 0
IsWordOn line w = IsName w.text × (w.line ≡ line)

-- a number that a text may have, on this line
abbrev pub IsNumberOn : ℕ → Number → Type 0
IsNumberOn line n = (n.value ≤ largest) × (n.line ≡ line)

abbrev mutual
  -- all names are names, all numbers small enough, and all stand on this line
  pub IsPolOn : ℕ → Pol → Type 0
  IsPolOn line (one_term t) = IsTermOn line t
  IsPolOn line (plus p t) = IsPolOn line p × IsTermOn line t

  pub IsTermOn : ℕ → Term → Type 0
  IsTermOn line (one_factor f) = IsFactorOn line f
  IsTermOn line (semi t f) = IsTermOn line t × IsFactorOn line f

  pub IsFactorOn : ℕ → Factor → Type 0
  IsFactorOn line (plain a) = IsAtomOn line a
  IsFactorOn line (starred f) = IsFactorOn line f

  pub IsAtomOn : ℕ → Atom → Type 0
  IsAtomOn line (written_not l a) = (l ≡ line) × IsAtomOn line a
  IsAtomOn line written_id = ⊤
  IsAtomOn line written_drop = ⊤
  IsAtomOn line written_dup = ⊤
  IsAtomOn line (written_name w) = IsWordOn line w
  IsAtomOn line (written_test w n) = IsWordOn line w × IsNumberOn line n
  IsAtomOn line (written_range w a b) = IsWordOn line w × IsNumberOn line a × IsNumberOn line b
  IsAtomOn line (written_set w n) = IsWordOn line w × IsNumberOn line n
  IsAtomOn line (written_link a m b n) = IsNumberOn line a × IsNumberOn line m × IsNumberOn line b × IsNumberOn line n
  IsAtomOn line (paren p) = IsPolOn line p

-- a text is cut into tokens that give this one `let`
pub record IsLetText (text : List ℕ) (w : Ident) (p : Pol) : Type 0 where
  pub tokens : List Token
  pub cut : tokens_of text ≡ Ok tokens
  pub read : file_of tokens ≡ Ok (definition w (pol_tree p) 1 ∷ [])

-- the text of a `let` in which at most 256 are open at once is read as that `let`
abbrev pub ReadsLetTexts : Type 0
ReadsLetTexts = (w : Ident) (p : Pol) → IsWordOn 1 w → IsPolOn 1 p → nesting_of_pol p ≤ 256
    → IsLetText (text_of (lexemes_of_let w p)) w p
