-- A source that is read piece by piece, and what its bytes are cut into.
use Rattle.std.specs.Prelude.{◌≡◌, ◌≤◌, ℕ, List, length, Option, Ok, Err}
use Rattle.std.specs.declared.result.Result.{Result}
use Rattle.std.specs.Io.KnownBytes.{Consumes, IsAtEnd}
use Rattle.nk_io.specs.Reading.{IsAllOf}
use Rattle.nk_lex.specs.declared.token.Token.{Token}
use Rattle.nk_lex.specs.declared.token.LexError.{LexError}
use Rattle.nk_lex.specs.declared.token.LexError.TheVariants as lexical
use Rattle.nk_lex.specs.Lex.{tokens_of}
use Rattle.nk_reply.specs.Answer.{limit}
use Rattle.nk_input.specs.declared.pieces.Lexed.{Lexed}
use Rattle.nk_input.specs.declared.pieces.Lexed.TheVariants as lexed

-- the text is cut into tokens of which this holds, or has this first lexical fault
abbrev pub IsLexedAs : (List Token → Type 0) → Lexed → Result (List Token) LexError → Type 0
IsLexedAs P lexed.Whole (Ok tokens) = P tokens
IsLexedAs P (lexed.BadByte line) (Err (lexical.BadByte l)) = l ≡ line
IsLexedAs P (lexed.NumberTooLarge line) (Err (lexical.NumberTooLarge l)) = l ≡ line
IsLexedAs P lexed read = ⊥

-- all bytes that a source had left were read, and they are cut so
pub record IsLexedOf (old new : Option (List ℕ)) (P : List Token → Type 0) (l : Lexed) : Type 0 where
  pub bytes : List ℕ
  pub read : Consumes old new bytes
  pub end : IsAtEnd new
  pub left : IsAllOf old bytes
  pub fits : length bytes ≤ limit
  pub lexed : IsLexedAs P l (tokens_of bytes)
