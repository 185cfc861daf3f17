-- The tokens of a text, lexeme by lexeme: blanks, comments, names, numbers and symbols, each as long as
-- it can be.
use Rattle.std.specs.Prelude.{◌≡◌, ◌==◌, ◌+◌, ◌-◌, ◌*◌, ◌<◌, ◌≤◌, ◌++◌, ℕ, zero, suc, Bool, false, List, [], ◌∷◌, Option, Some, None, Ok, Err, if◌then◌else◌, length, take, take_while, fold, nat_le, ⊤}
use Rattle.std.specs.declared.result.Result.{Result}
use Rattle.nk_lex.specs.declared.kind.Kind.{Kind}
use Rattle.nk_lex.specs.declared.kind.Kind.TheVariants as kind
use Rattle.nk_lex.specs.declared.front.Front.{Front}
use Rattle.nk_lex.specs.declared.front.Front.TheVariants as front
use Rattle.nk_lex.specs.declared.token.Token.{Token}
use Rattle.nk_lex.specs.declared.token.LexError.{LexError}
use Rattle.nk_lex.specs.declared.token.LexError.TheVariants as error
use Rattle.nk_lex.specs.Classes.{is_digit, is_name_byte, is_name_start, is_white, not_line_feed}
use Rattle.nk_lex.specs.Kinds.{kind_of_name}

abbrev pub starts_with_byte : ℕ → List ℕ → Bool
starts_with_byte c [] = false
starts_with_byte c (b ∷ rest) = b == c

-- the symbols of one byte that begin no longer one
abbrev pub single_of : ℕ → Option Kind
single_of b = if b == 43 then Some kind.Plus
    else if b == 59 then Some kind.Semicolon
    else if b == 42 then Some kind.Star
    else if b == 126 then Some kind.Tilde
    else if b == 40 then Some kind.OpenParen
    else if b == 41 then Some kind.CloseParen
    else if b == 44 then Some kind.Comma
    else if b == 47 then Some kind.Slash
    else if b == 91 then Some kind.OpenBracket
    else if b == 93 then Some kind.CloseBracket
    else None

abbrev pub one_byte : Option Kind → Front
one_byte (Some k) = front.Symbol 1 k
one_byte None = front.Bad

-- the longest symbol that begins with this byte
abbrev pub symbol_of : ℕ → List ℕ → Front
symbol_of b rest =
    if b == 61 then (if starts_with_byte 62 rest then front.Symbol 2 kind.FatArrow else front.Symbol 1 kind.Equal)
    else if b == 58 then (if starts_with_byte 61 rest then front.Symbol 2 kind.Assign else front.Symbol 1 kind.Colon)
    else if b == 45 then (if starts_with_byte 62 rest then front.Symbol 2 kind.Arrow else front.Bad)
    else if b == 46 then (if starts_with_byte 46 rest then front.Symbol 2 kind.DotDot else front.Bad)
    else one_byte (single_of b)

-- what stands at the front of a text that isn't empty, and how many bytes it has
abbrev pub front_of : ℕ → List ℕ → Front
front_of b rest =
    if is_white b then front.Blank 1
    else if b == 35 then front.Blank (length (take_while not_line_feed rest) + 1)
    else if is_name_start b then front.Name (length (take_while is_name_byte rest) + 1)
    else if is_digit b then front.Number (length (take_while is_digit rest) + 1)
    else symbol_of b rest

-- the number that digits write
abbrev pub value_of : List ℕ → ℕ
value_of digits = fold (λ n d. n * 10 + (d - 48)) 0 digits

abbrev pub largest : ℕ
largest = 281474976710655

abbrev pub token : Kind → ℕ → ℕ → ℕ → ℕ → List ℕ → Token
token k at len line value text = record {
  kind = k;
  start = at;
  end = at + len;
  line = line;
  value = value;
  text = text;
}

-- the token of a number with these digits, where it isn't too large
abbrev pub number_of : List ℕ → ℕ → ℕ → ℕ → Result Token LexError
number_of digits at len line = if nat_le (value_of digits) largest
    then Ok (token kind.Number at len line (value_of digits) [])
    else Err (error.NumberTooLarge line)

-- a token with the number of its bytes
abbrev pub with_length : ℕ → Result Token LexError → Result (ℕ × Option Token) LexError
with_length n (Ok t) = Ok (n, Some t)
with_length n (Err e) = Err e

-- what a lexeme comes to: how many bytes it has, and its token, where it has one
abbrev pub cut : Front → ℕ → ℕ → List ℕ → Result (ℕ × Option Token) LexError
cut (front.Blank n) line at bytes = Ok (n, None)
cut (front.Name n) line at bytes =
    Ok (n, Some (token (kind_of_name (take n bytes)) at n line 0 (take n bytes)))
cut (front.Number n) line at bytes = with_length n (number_of (take n bytes) at n line)
cut (front.Symbol n k) line at bytes = Ok (n, Some (token k at n line 0 []))
cut front.Bad line at bytes = Err (error.BadByte line)

-- the tokens up to the first fault, and the fault, where there is one
abbrev pub Scanned : Type 0
Scanned = List Token × Option LexError

abbrev pub with_token : Option Token → Scanned → Scanned
with_token None r = r
with_token (Some t) r = (t ∷ r.0, r.1)

abbrev pub go_on : Result (ℕ × Option Token) LexError → (ℕ → Scanned) → Scanned
go_on (Ok p) next = with_token p.1 (next p.0)
go_on (Err e) next = ([], Some e)

abbrev pub line_after : ℕ → ℕ → ℕ
line_after line b = if b == 10 then line + 1 else line

-- The tokens of the bytes, the first of which has the index `at` in the text, and the first fault, if there is one. The first
-- `skip` bytes belong to the lexeme before, and `line` is the line of the first byte after it.
abbrev pub scan : List ℕ → ℕ → ℕ → ℕ → Scanned
scan [] skip line at = ([], None)
scan (b ∷ rest) zero line at =
    go_on (cut (front_of b rest) line at (b ∷ rest)) (λ n. scan rest (n - 1) (line_after line b) (at + 1))
scan (b ∷ rest) (suc skip) line at = scan rest skip line (at + 1)

abbrev pub answer_with : List Token → Option LexError → Result (List Token) LexError
answer_with ts None = Ok ts
answer_with ts (Some e) = Err e

abbrev pub lex_result : Scanned → Result (List Token) LexError
lex_result r = answer_with r.0 r.1

-- the tokens of a text, or its first fault
abbrev pub tokens_of : List ℕ → Result (List Token) LexError
tokens_of text = lex_result (scan text 0 1 0)

-- memory ran out, or the fault is this one
abbrev pub LexFails : {Y : Type 0} → LexError → Result Y LexError → Type 0
LexFails error.NoMemory read = ⊤
LexFails e read = read ≡ Err e

-- what was answered is what reading gives, unless memory ran out
abbrev pub LexReturns : {X Y : Type 0} → (X → Y) → Result X LexError → Result Y LexError → Type 0
LexReturns view (Ok x) read = read ≡ Ok (view x)
LexReturns view (Err e) read = LexFails e read

-- the lexeme has a byte, and at most so many
abbrev pub FitsIn : Front → ℕ → Type 0
FitsIn (front.Blank n) len = (0 < n) × (n ≤ len)
FitsIn (front.Name n) len = (0 < n) × (n ≤ len)
FitsIn (front.Number n) len = (0 < n) × (n ≤ len)
FitsIn (front.Symbol n k) len = (0 < n) × (n ≤ len)
FitsIn front.Bad len = ⊤

-- what was read so far, and then this
abbrev pub after : List Token → Scanned → Scanned
after ts r = (ts ++ r.0, r.1)

-- what stands at the front of bytes that aren't empty
abbrev pub cut_front : List ℕ → ℕ → ℕ → Result (ℕ × Option Token) LexError
cut_front [] line at = Ok (0, None)
cut_front (b ∷ rest) line at = cut (front_of b rest) line at (b ∷ rest)

-- a lexeme comes to a token
abbrev pub HasToken : Result (ℕ × Option Token) LexError → Type 0
HasToken (Ok (n, Some t)) = ⊤
HasToken r = ⊥

-- the text has a fault, and memory didn't run out
abbrev pub IsFaultOfText : LexError → Type 0
IsFaultOfText error.NoMemory = ⊥
IsFaultOfText e = ⊤
