-- The text of a certificate: the word, and each row on a line of its own.
use Rattle.std.specs.Prelude.{◌≡◌, ◌≤◌, ◌+◌, ℕ, List, [], ◌∷◌, ◌++◌, Ok, All, codes, ⊤}
use Rattle.nk_lex.specs.declared.token.Token.{Token}
use Rattle.nk_lex.specs.Lex.{tokens_of}
use Rattle.nk_lex.specs.Spelling.{Sign, Lexeme, text_of}
use Rattle.nk_lex.specs.declared.ident.Number.{Number}
use Rattle.nk_grammar.specs.Grammar.{Pol}
use Rattle.nk_grammar.specs.Nesting.{nesting_of_pol}
use Rattle.nk_grammar.specs.Text.{lexemes_of_pol, IsNumberOn, IsPolOn}
use Rattle.nk_grammar.specs.Certified.{WrittenRow, written_row, rows_said, certified}
use Rattle.nk_grammar.specs.CertifiedMachine.{certified_of}
use Rattle.nk_grammar.specs.Moved.{nesting_of_row}

-- further numbers, each after a space
abbrev pub lexemes_of_numbers : List Number → List Lexeme
lexemes_of_numbers [] = []
lexemes_of_numbers (n ∷ ns) = Lexeme.space ∷ Lexeme.numeral n.value ∷ lexemes_of_numbers ns

-- ` : ` and a policy, to the end of the line
abbrev pub lexemes_of_predicate : Pol → List Lexeme → List Lexeme
lexemes_of_predicate p rest =
    Lexeme.space ∷ Lexeme.sign Sign.colon ∷ Lexeme.space ∷ (lexemes_of_pol p ++ Lexeme.line_feed ∷ rest)

-- `row N N .. : ` and a policy, for each row
abbrev pub lexemes_of_rows : List WrittenRow → List Lexeme
lexemes_of_rows [] = []
lexemes_of_rows (written_row line n ns p ∷ ws) =
    Lexeme.word (codes "row") ∷ Lexeme.space ∷ Lexeme.numeral n.value
    ∷ (lexemes_of_numbers ns ++ lexemes_of_predicate p (lexemes_of_rows ws))

-- the word `certificate`, the start row and the others
abbrev pub lexemes_of_certificate : Pol → List WrittenRow → List Lexeme
lexemes_of_certificate p ws =
    Lexeme.word (codes "certificate") ∷ Lexeme.line_feed ∷ Lexeme.word (codes "row") ∷ Lexeme.space
    ∷ Lexeme.word (codes "start") ∷ lexemes_of_predicate p (lexemes_of_rows ws)

-- the rows stand one below the other from this line on, each with its names and numbers on its line
abbrev pub AreRowsOn : ℕ → List WrittenRow → Type 0
AreRowsOn line [] = ⊤
AreRowsOn line (written_row l n ns p ∷ ws) =
    (l ≡ line) × IsNumberOn line n × All (IsNumberOn line) ns × IsPolOn line p × AreRowsOn (line + 1) ws

-- a text is cut into tokens that give this certificate, its start row on line 2
pub record IsCertificateText (text : List ℕ) (p : Pol) (ws : List WrittenRow) : Type 0 where
  pub tokens : List Token
  pub cut : tokens_of text ≡ Ok tokens
  pub read : certified_of tokens ≡ Ok (certified [] (rows_said 2 p ws))

-- the text of a certificate in which at most 256 are open at once is read as that certificate
abbrev pub ReadsCertificateTexts : Type 0
ReadsCertificateTexts = (p : Pol) (ws : List WrittenRow) → IsPolOn 2 p → AreRowsOn 3 ws → nesting_of_pol p ≤ 256
    → All (λ w. nesting_of_row w ≤ 256) ws → IsCertificateText (text_of (lexemes_of_certificate p ws)) p ws
