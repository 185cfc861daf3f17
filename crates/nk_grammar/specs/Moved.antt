-- Names, numbers and trees on later lines, and a program's text in front of its certificate.
use Rattle.std.specs.Prelude.{◌≡◌, ◌≤◌, ◌+◌, ℕ, List, [], ◌∷◌, ◌++◌, map, All, Ok}
use Rattle.nk_lex.specs.declared.token.Token.{Token}
use Rattle.nk_lex.specs.Lex.{tokens_of}
use Rattle.nk_lex.specs.Joined.{joined, token_moved}
use Rattle.nk_lex.specs.Spans.{line_feeds}
use Rattle.nk_lex.specs.declared.ident.Ident.{Ident}
use Rattle.nk_lex.specs.declared.ident.Number.{Number}
use Rattle.nk_grammar.specs.Terminal.{outside, certificate_word}
use Rattle.nk_grammar.specs.Tree.{Tree, Trees, name_of, test, range, assign, sum_of, seq_of, not_of, star_of, dup, link, no_part, part}
use Rattle.nk_grammar.specs.Grammar.{Pol}
use Rattle.nk_grammar.specs.Nesting.{nesting_of_pol}
use Rattle.nk_grammar.specs.File.{Declaration}
use Rattle.nk_grammar.specs.FileMachine.{file_of}
use Rattle.nk_grammar.specs.Answer.{terminals}
use Rattle.nk_grammar.specs.Certified.{Row, row, WrittenRow, written_row, spell_certificate, rows_said, certified}
use Rattle.nk_grammar.specs.CertifiedMachine.{certified_of}

-- a name so many lines further on
abbrev pub word_moved : ℕ → Ident → Ident
word_moved lines w = record { text = w.text; line = w.line + lines }

-- a number
abbrev pub number_moved : ℕ → Number → Number
number_moved lines n = record { value = n.value; line = n.line + lines }

abbrev mutual
  -- a tree: each name, number and `~`
  pub tree_moved : ℕ → Tree → Tree
  tree_moved lines (name_of w) = name_of (word_moved lines w)
  tree_moved lines (test w n) = test (word_moved lines w) (number_moved lines n)
  tree_moved lines (range w a b) = range (word_moved lines w) (number_moved lines a) (number_moved lines b)
  tree_moved lines (assign w n) = assign (word_moved lines w) (number_moved lines n)
  tree_moved lines (sum_of ts) = sum_of (trees_moved lines ts)
  tree_moved lines (seq_of ts) = seq_of (trees_moved lines ts)
  tree_moved lines (not_of t line) = not_of (tree_moved lines t) (line + lines)
  tree_moved lines (star_of t) = star_of (tree_moved lines t)
  tree_moved lines dup = dup
  tree_moved lines (link a m b n) =
      link (number_moved lines a) (number_moved lines m) (number_moved lines b) (number_moved lines n)

  pub trees_moved : ℕ → Trees → Trees
  trees_moved lines no_part = no_part
  trees_moved lines (part t ts) = part (tree_moved lines t) (trees_moved lines ts)

-- a row, with its predicate
abbrev pub row_moved : ℕ → Row → Row
row_moved lines (row ns p line) = row ns (tree_moved lines p) (line + lines)

-- a program's tokens stay that program in front of a certificate's
abbrev pub StaysInFront : Type 0
StaysInFront = (ts us : List Token) (ds : List Declaration) (rs : List Row) → file_of ts ≡ Ok ds
    → certified_of us ≡ Ok (certified [] rs) → certified_of (ts ++ us) ≡ Ok (certified ds rs)

-- a certificate's tokens further on are those of the same rows on later lines
abbrev pub CertificatesMove : Type 0
CertificatesMove = (us : List Token) (rs : List Row) (lines places : ℕ) → certified_of us ≡ Ok (certified [] rs)
    → certified_of (map (token_moved lines places) us) ≡ Ok (certified [] (map (row_moved lines) rs))

-- how many are open at once in a row
abbrev pub nesting_of_row : WrittenRow → ℕ
nesting_of_row (written_row line n ns p) = nesting_of_pol p

-- the tokens of a certificate in which at most 256 are open at once give its rows
abbrev pub ReadsCertificates : Type 0
ReadsCertificates = (us : List Token) (line : ℕ) (p : Pol) (ws : List WrittenRow)
    → terminals us ≡ outside certificate_word ∷ spell_certificate line p ws
    → nesting_of_pol p ≤ 256 → All (λ w. nesting_of_row w ≤ 256) ws
    → certified_of us ≡ Ok (certified [] (rows_said line p ws))

-- the text of a program, a line feed and the text of a certificate are a text with these declarations and rows
pub record IsReadTogether (a b : List ℕ) (ds : List Declaration) (rs : List Row) : Type 0 where
  pub tokens : List Token
  pub cut : tokens_of (joined a b) ≡ Ok tokens
  pub read : certified_of tokens ≡ Ok (certified ds (map (row_moved (line_feeds a + 1)) rs))

-- they are the program's, and the certificate's on later lines
abbrev pub ReadsTogether : Type 0
ReadsTogether = (a b : List ℕ) (ts us : List Token) (ds : List Declaration) (rs : List Row)
    → tokens_of a ≡ Ok ts → file_of ts ≡ Ok ds → tokens_of b ≡ Ok us → certified_of us ≡ Ok (certified [] rs)
    → IsReadTogether a b ds rs
