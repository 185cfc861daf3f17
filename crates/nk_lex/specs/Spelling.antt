-- Texts by their lexemes: words, numbers and signs one after the other, with spaces and line feeds where they are wanted.
use Rattle.std.specs.Prelude.{All, ◌≡◌, ◌≤◌, ◌+◌, ℕ, Bool, true, false, ◌&&◌, List, [], ◌∷◌, ◌++◌, Ok, length, codes, decimal, ⊤}
use Rattle.std.specs.List.{list_all}
use Rattle.nk_lex.specs.declared.kind.Kind.{Kind}
use Rattle.nk_lex.specs.declared.kind.Kind.TheVariants as kind
use Rattle.nk_lex.specs.declared.token.Token.{Token}
use Rattle.nk_lex.specs.Classes.{is_name_byte, is_name_start}
use Rattle.nk_lex.specs.Kinds.{kind_of_name}
use Rattle.nk_lex.specs.Lex.{largest, token, tokens_of}
use Rattle.nk_lex.specs.Spans.{tokens_before_fault}

-- the symbols
pub data Sign : Type 0 where
  plus : Sign
  semicolon : Sign
  star : Sign
  tilde : Sign
  open_parenthesis : Sign
  close_parenthesis : Sign
  equal : Sign
  becomes : Sign
  fat_arrow : Sign
  arrow : Sign
  colon : Sign
  comma : Sign
  slash : Sign
  dots : Sign
  open_bracket : Sign
  close_bracket : Sign

-- how a symbol is written
abbrev pub sign_bytes : Sign → List ℕ
sign_bytes plus = codes "+"
sign_bytes semicolon = codes ";"
sign_bytes star = codes "*"
sign_bytes tilde = codes "~"
sign_bytes open_parenthesis = codes "("
sign_bytes close_parenthesis = codes ")"
sign_bytes equal = codes "="
sign_bytes becomes = codes ":="
sign_bytes fat_arrow = codes "=>"
sign_bytes arrow = codes "->"
sign_bytes colon = codes ":"
sign_bytes comma = codes ","
sign_bytes slash = codes "/"
sign_bytes dots = codes ".."
sign_bytes open_bracket = codes "["
sign_bytes close_bracket = codes "]"

-- the kind of its token
abbrev pub sign_kind : Sign → Kind
sign_kind plus = kind.Plus
sign_kind semicolon = kind.Semicolon
sign_kind star = kind.Star
sign_kind tilde = kind.Tilde
sign_kind open_parenthesis = kind.OpenParen
sign_kind close_parenthesis = kind.CloseParen
sign_kind equal = kind.Equal
sign_kind becomes = kind.Assign
sign_kind fat_arrow = kind.FatArrow
sign_kind arrow = kind.Arrow
sign_kind colon = kind.Colon
sign_kind comma = kind.Comma
sign_kind slash = kind.Slash
sign_kind dots = kind.DotDot
sign_kind open_bracket = kind.OpenBracket
sign_kind close_bracket = kind.CloseBracket

-- a lexeme as it is written: a name or a keyword by its bytes, a number in decimal digits without leading zeros
pub data Lexeme : Type 0 where
  space : Lexeme
  line_feed : Lexeme
  word : List ℕ → Lexeme
  numeral : ℕ → Lexeme
  sign : Sign → Lexeme

abbrev pub bytes_of : Lexeme → List ℕ
bytes_of space = codes " "
bytes_of line_feed = codes "\n"
bytes_of (word w) = w
bytes_of (numeral n) = decimal n
bytes_of (sign s) = sign_bytes s

-- the text that the lexemes make
abbrev pub text_of : List Lexeme → List ℕ
text_of [] = []
text_of (x ∷ xs) = bytes_of x ++ text_of xs

-- their tokens, where the first lexeme begins on this line, at this index of the text
abbrev pub tokens_from : (line at : ℕ) → List Lexeme → List Token
tokens_from line at [] = []
tokens_from line at (space ∷ xs) = tokens_from line (at + 1) xs
tokens_from line at (line_feed ∷ xs) = tokens_from (line + 1) (at + 1) xs
tokens_from line at (word w ∷ xs) =
    token (kind_of_name w) at (length w) line 0 w ∷ tokens_from line (at + length w) xs
tokens_from line at (numeral n ∷ xs) =
    token kind.Number at (length (decimal n)) line n [] ∷ tokens_from line (at + length (decimal n)) xs
tokens_from line at (sign s ∷ xs) =
    token (sign_kind s) at (length (sign_bytes s)) line 0 [] ∷ tokens_from line (at + length (sign_bytes s)) xs

-- a letter or `_`, then letters, digits and `_`
abbrev pub IsWord : List ℕ → Type 0
IsWord [] = ⊥
IsWord (b ∷ bs) = (is_name_start b ≡ true) × (list_all is_name_byte bs ≡ true)

-- a word that is no keyword
abbrev pub IsName : List ℕ → Type 0
IsName w = IsWord w × (kind_of_name w ≡ kind.Name)

-- a word is one, and a number isn't too large
abbrev pub IsLexeme : Lexeme → Type 0
IsLexeme (word w) = IsWord w
IsLexeme (numeral n) = n ≤ largest
IsLexeme x = ⊤

abbrev pub is_colon : Sign → Bool
is_colon colon = true
is_colon s = false

abbrev pub begins_with_equal : Sign → Bool
begins_with_equal equal = true
begins_with_equal fat_arrow = true
begins_with_equal s = false

-- the second lexeme, right after the first, would make it longer
abbrev pub merges : Lexeme → Lexeme → Bool
merges (word v) (word w) = true
merges (word v) (numeral n) = true
merges (numeral m) (numeral n) = true
merges (sign s) (sign t) = is_colon s && begins_with_equal t
merges x y = false

-- the first of these lexemes, if there is one, doesn't
abbrev pub IsApart : Lexeme → List Lexeme → Type 0
IsApart x [] = ⊤
IsApart x (y ∷ ys) = merges x y ≡ false

-- lexemes none of which makes the one before it longer
abbrev pub AreSeparate : List Lexeme → Type 0
AreSeparate [] = ⊤
AreSeparate (x ∷ xs) = IsLexeme x × IsApart x xs × AreSeparate xs

-- the text of such lexemes is cut into their tokens
abbrev pub CutsLexemes : Type 0
CutsLexemes = (xs : List Lexeme) → AreSeparate xs → tokens_of (text_of xs) ≡ Ok (tokens_from 1 0 xs)

-- what a text has as a name is one
abbrev pub NamesAreNames : Type 0
NamesAreNames = (text : List ℕ) → All (λ t. t.kind ≡ kind.Name → IsName t.text) (tokens_before_fault text)
