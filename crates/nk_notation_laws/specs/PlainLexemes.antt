-- Texts that nk's lexemes make, with plain numbers. nk's own texts (certificates, table texts, policies) are such texts.
use Rattle.std.specs.Prelude.{◌≡◌, ◌≤◌, ℕ, Bool, true, false, List, [], ◌∷◌, ◌++◌, bytes_eq, codes, ⊤}
use Rattle.std.specs.List.{list_all}
use Rattle.nk_lex.specs.Lex.{largest}
use Rattle.nk_lex.specs.Spelling.{IsWord, Lexeme, Sign, numeral, sign, space, line_feed, word, equal, becomes, fat_arrow, colon, slash, dots}

-- the symbols that join what stands before and after them to one run of bytes
abbrev pub joins : Sign → Bool
joins becomes = true
joins colon = true
joins slash = true
joins dots = true
joins s = false

-- the symbols of which no word is made
abbrev pub makes_no_word : Sign → Bool
makes_no_word equal = false
makes_no_word fat_arrow = false
makes_no_word becomes = false
makes_no_word colon = false
makes_no_word slash = false
makes_no_word dots = false
makes_no_word s = true

-- a run of bytes ends before these lexemes
abbrev pub EndsRun : List Lexeme → Type 0
EndsRun [] = ⊤
EndsRun (space ∷ xs) = ⊤
EndsRun (line_feed ∷ xs) = ⊤
EndsRun (word w ∷ xs) = ⊥
EndsRun (numeral n ∷ xs) = ⊥
EndsRun (sign s ∷ xs) = joins s ≡ false

abbrev pub is_blank : Lexeme → Bool
is_blank space = true
is_blank line_feed = true
is_blank x = false

-- spaces and line feeds, at least one
abbrev pub AreBlanks : List Lexeme → Type 0
AreBlanks [] = ⊥
AreBlanks (x ∷ xs) = (is_blank x ≡ true) × (list_all is_blank xs ≡ true)

-- Each run of bytes is a name, a number, two numbers with `..`, `/` or `:` between them, a name with `:`, or `:`. A number and a
-- prefix may have an `=` before them. The word `field` is none of the names: it stands before the name and the largest value of a
-- field, and this value is a number.
pub data ArePlain : List Lexeme → Type 0 where
  ends : ArePlain []
  blank : (xs : List Lexeme) → ArePlain xs → ArePlain (space ∷ xs)
  ended : (xs : List Lexeme) → ArePlain xs → ArePlain (line_feed ∷ xs)
  mark : (s : Sign) (xs : List Lexeme) → makes_no_word s ≡ true → ArePlain xs → ArePlain (sign s ∷ xs)
  named : (w : List ℕ) (xs : List Lexeme) → IsWord w → bytes_eq w (codes "field") ≡ false → EndsRun xs → ArePlain xs → ArePlain (word w ∷ xs)
  number : (n : ℕ) (xs : List Lexeme) → n ≤ largest → EndsRun xs → ArePlain xs → ArePlain (numeral n ∷ xs)
  interval : (a b : ℕ) (xs : List Lexeme) → a ≤ largest → b ≤ largest → EndsRun xs → ArePlain xs → ArePlain (numeral a ∷ sign dots ∷ numeral b ∷ xs)
  port : (a b : ℕ) (xs : List Lexeme) → a ≤ largest → b ≤ largest → EndsRun xs → ArePlain xs → ArePlain (numeral a ∷ sign colon ∷ numeral b ∷ xs)
  assigned : (w : List ℕ) (n : ℕ) (xs : List Lexeme) → IsWord w → n ≤ largest → EndsRun xs → ArePlain xs → ArePlain (word w ∷ sign becomes ∷ numeral n ∷ xs)
  tested : (n : ℕ) (xs : List Lexeme) → n ≤ largest → EndsRun xs → ArePlain xs → ArePlain (sign equal ∷ numeral n ∷ xs)
  prefixed : (a b : ℕ) (xs : List Lexeme) → a ≤ largest → b ≤ largest → EndsRun xs → ArePlain xs → ArePlain (sign equal ∷ numeral a ∷ sign slash ∷ numeral b ∷ xs)
  divided : (xs : List Lexeme) → EndsRun xs → ArePlain xs → ArePlain (sign colon ∷ xs)
  equals : (xs : List Lexeme) → EndsRun xs → ArePlain xs → ArePlain (sign equal ∷ xs)
  declared : (first : List Lexeme) (w : List ℕ) (second : List Lexeme) (n : ℕ) (xs : List Lexeme) → AreBlanks first → IsWord w
      → bytes_eq w (codes "field") ≡ false → AreBlanks second → n ≤ largest → EndsRun xs → ArePlain xs
      → ArePlain (word (codes "field") ∷ (first ++ (word w ∷ (second ++ (numeral n ∷ xs)))))
  linked : (xs : List Lexeme) → ArePlain xs → ArePlain (sign fat_arrow ∷ xs)
