-- What the bytes of a table text are, by how they are cut into tokens.
use Rattle.std.proofs.Common.{◌≡◌, ℕ, List, ap}
use Rattle.std.specs.Prelude.{Ok, Err}
use Rattle.std.specs.declared.result.Result.{Result}
use Rattle.nk_lex.specs.Faults.{and_then}
use Rattle.nk_lex.specs.Lex.{tokens_of}
use Rattle.nk_lex.specs.declared.token.Token.{Token}
use Rattle.nk_lex.specs.declared.token.LexError.{LexError}
use Rattle.nk_lex.specs.declared.token.LexError.TheVariants as lexical
use Rattle.nk_table.specs.declared.Tables.{Tables}
use Rattle.nk_tabgrammar.specs.declared.written.ReadError.{ReadError}
use Rattle.nk_tabgrammar.specs.declared.written.ReadError.TheVariants as text
use Rattle.nk_tabtext.specs.Values.{lexed, tables_of, tables_of_tokens}
use Rattle.nk_input.specs.declared.pieces.Lexed.TheVariants as cut
use Rattle.nk_input.specs.Pieces.{IsLexedAs}

-- what the text comes to, by what its tokens are
abbrev tables_by : Result (List Token) LexError → Result Tables ReadError
tables_by r = and_then (lexed r) tables_of_tokens

too_large_cut : (P : List Token → Type 0) (line : ℕ) (r : Result (List Token) LexError)
    → IsLexedAs P (cut.NumberTooLarge line) r → tables_by r ≡ Err (text.NumberTooLarge line)
too_large_cut P line (Ok ts) h = absurd h
too_large_cut P line (Err (lexical.BadByte l)) h = absurd h
too_large_cut P line (Err (lexical.NumberTooLarge l)) h = ap (λ n. Err (text.NumberTooLarge n)) h
too_large_cut P line (Err lexical.NoMemory) h = absurd h

-- a number of the text is too large
pub too_large_read : (P : List Token → Type 0) (line : ℕ) (bytes : List ℕ)
    → IsLexedAs P (cut.NumberTooLarge line) (tokens_of bytes) → tables_of bytes ≡ Err (text.NumberTooLarge line)
too_large_read P line bytes h = too_large_cut P line (tokens_of bytes) h
