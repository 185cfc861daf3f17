-- How the bytes of a text are cut into tokens.
use Rattle.std.proofs.Common.{◌≡◌, ℕ, List, refl, ap}
use Rattle.std.specs.declared.result.Result.{Result}
use Rattle.std.specs.Prelude.{Ok, Err}
use Rattle.nk_lex.specs.declared.token.Token.{Token}
use Rattle.nk_lex.specs.declared.token.LexError.{LexError}
use Rattle.nk_lex.specs.declared.token.LexError.TheVariants as lexical
use Rattle.nk_lex.specs.Lex.{tokens_of}
use Rattle.nk_input.specs.Pieces.{IsLexedAs}
use Rattle.nk_input.specs.declared.pieces.Lexed.TheVariants as lexed

-- there is no lexical fault
pub cut_whole : (P : List Token → Type 0) (bytes : List ℕ) → IsLexedAs P lexed.Whole (tokens_of bytes)
    → (tokens : List Token) × (tokens_of bytes ≡ Ok tokens) × P tokens
cut_whole P bytes h = by (tokens_of bytes) refl h
  where
    by : (r : Result (List Token) LexError) → tokens_of bytes ≡ r → IsLexedAs P lexed.Whole r
        → (tokens : List Token) × (tokens_of bytes ≡ Ok tokens) × P tokens
    by (Ok tokens) is h = (tokens, is, h)
    by (Err (lexical.BadByte l)) is h = absurd h
    by (Err (lexical.NumberTooLarge l)) is h = absurd h
    by (Err lexical.NoMemory) is h = absurd h

pub cut_bad : (P : List Token → Type 0) (line : ℕ) (bytes : List ℕ) → IsLexedAs P (lexed.BadByte line) (tokens_of bytes)
    → tokens_of bytes ≡ Err (lexical.BadByte line)
cut_bad P line bytes h = by (tokens_of bytes) h
  where
    by : (r : Result (List Token) LexError) → IsLexedAs P (lexed.BadByte line) r → r ≡ Err (lexical.BadByte line)
    by (Ok tokens) h = absurd h
    by (Err (lexical.BadByte l)) h = ap (λ n. Err (lexical.BadByte n)) h
    by (Err (lexical.NumberTooLarge l)) h = absurd h
    by (Err lexical.NoMemory) h = absurd h

pub cut_large : (P : List Token → Type 0) (line : ℕ) (bytes : List ℕ) → IsLexedAs P (lexed.NumberTooLarge line) (tokens_of bytes)
    → tokens_of bytes ≡ Err (lexical.NumberTooLarge line)
cut_large P line bytes h = by (tokens_of bytes) h
  where
    by : (r : Result (List Token) LexError) → IsLexedAs P (lexed.NumberTooLarge line) r → r ≡ Err (lexical.NumberTooLarge line)
    by (Ok tokens) h = absurd h
    by (Err (lexical.BadByte l)) h = absurd h
    by (Err (lexical.NumberTooLarge l)) h = ap (λ n. Err (lexical.NumberTooLarge n)) h
    by (Err lexical.NoMemory) h = absurd h
