-- Two texts with a line feed between them: the tokens of the second stand after those of the first, on later lines and in
-- later spans.
use Rattle.std.specs.Prelude.{◌≡◌, ◌+◌, ℕ, List, ◌∷◌, ◌++◌, Ok, Err, map, length}
use Rattle.std.specs.declared.result.Result.{Result}
use Rattle.nk_lex.specs.declared.token.Token.{Token}
use Rattle.nk_lex.specs.declared.token.LexError.{LexError}
use Rattle.nk_lex.specs.declared.token.LexError.TheVariants as error
use Rattle.nk_lex.specs.Lex.{tokens_of}
use Rattle.nk_lex.specs.Spans.{line_feeds}
use Rattle.nk_lex.specs.Spelling.{Lexeme, tokens_from}

-- a text, a line feed and another text
abbrev pub joined : List ℕ → List ℕ → List ℕ
joined a b = a ++ 10 ∷ b

-- a token so many lines and bytes further on
abbrev pub token_moved : (lines places : ℕ) → Token → Token
token_moved lines places t = record {
  kind = t.kind;
  start = t.start + places;
  end = t.end + places;
  line = t.line + lines;
  value = t.value;
  text = t.text;
}

-- a fault so many lines further on
abbrev pub fault_moved : ℕ → LexError → LexError
fault_moved lines error.NoMemory = error.NoMemory
fault_moved lines (error.BadByte line) = error.BadByte (line + lines)
fault_moved lines (error.NumberTooLarge line) = error.NumberTooLarge (line + lines)

-- the tokens of a second text, so many lines and bytes further on, stand after these; or its fault, so many lines further on
abbrev pub after_tokens : List Token → (lines places : ℕ) → Result (List Token) LexError → Result (List Token) LexError
after_tokens ts lines places (Ok us) = Ok (ts ++ map (token_moved lines places) us)
after_tokens ts lines places (Err e) = Err (fault_moved lines e)

-- the tokens of a first text, and after them those of a second one, so many lines and bytes further on; or the first fault of
-- both
abbrev pub joined_after : Result (List Token) LexError → (lines places : ℕ) → Result (List Token) LexError
    → Result (List Token) LexError
joined_after (Ok ts) lines places r = after_tokens ts lines places r
joined_after (Err e) lines places r = Err e

-- the second text begins on the line after the first one's last line; one byte, the line feed, stands between them
abbrev pub JoinsTexts : Type 0
JoinsTexts = (a b : List ℕ)
    → tokens_of (joined a b) ≡ joined_after (tokens_of a) (line_feeds a + 1) (length a + 1) (tokens_of b)

-- the tokens of lexemes, moved on, are the tokens of the lexemes from a later line and index on
abbrev pub MovesLexemes : Type 0
MovesLexemes = (xs : List Lexeme) (line at lines places : ℕ)
    → map (token_moved lines places) (tokens_from line at xs) ≡ tokens_from (line + lines) (at + places) xs
