-- How the next piece goes on from what is kept, and what the end of the text makes of it.
use Rattle.std.specs.Prelude.{◌≡◌, ◌+◌, ◌-◌, ◌≤◌, ◌++◌, ℕ, Bool, true, false, List, [], ◌∷◌, Option, Some, Ok, Err, if◌then◌else◌, take, drop, take_while, nat_le, option_to_list, not, length, min}
use Rattle.std.specs.List.{list_all}
use Rattle.std.specs.declared.result.Result.{Result}
use Rattle.nk_lex.specs.declared.token.Token.{Token}
use Rattle.nk_lex.specs.declared.token.LexError.{LexError}
use Rattle.nk_lex.specs.declared.token.LexError.TheVariants as error
use Rattle.nk_lex.specs.declared.kind.Kind.TheVariants as kind
use Rattle.nk_lex.specs.declared.unfinished.Pending.{Pending}
use Rattle.nk_lex.specs.declared.unfinished.Pending.TheVariants as pending
use Rattle.nk_lex.specs.declared.settling.Next.{Next}
use Rattle.nk_lex.specs.Classes.{is_digit, is_name_byte, is_name_start, not_line_feed}
use Rattle.nk_lex.specs.Lex.{cut_front, largest, token}
use Rattle.nk_lex.specs.Kept.{value_on, IsKept, IsPendingWithin}
use Rattle.nk_lex.specs.Pieces.{is_empty, is_open, Settled, settle_on, settle, held_in, Fault}

-- a lexeme that is complete stands at the front
abbrev pub has_whole : List ℕ → Bool
has_whole [] = false
has_whole (b ∷ rest) = not (is_open b rest)

-- all of the piece belongs to the open name or symbol
abbrev pub holds_on : List ℕ → List ℕ → Bool
holds_on [] piece = is_empty piece
holds_on (b ∷ rest) piece = if is_name_start b then list_all is_name_byte piece else is_empty piece

-- all of the piece belongs to what is open, or nothing counts any more
abbrev pub goes_on : Pending → List ℕ → List ℕ → Bool
goes_on pending.Nothing held piece = is_empty piece
goes_on pending.Comment held piece = list_all not_line_feed piece
goes_on (pending.Number at value) held piece = list_all is_digit piece
goes_on pending.Held held piece = holds_on held piece
goes_on (pending.Fault e) held piece = true

-- what is open then
abbrev pub pending_past : Pending → List ℕ → Pending
pending_past (pending.Number at value) piece = pending.Number at (min (value_on value piece) (largest + 1))
pending_past p piece = p

-- the bytes that are held then
abbrev pub held_past : Pending → List ℕ → List ℕ → List ℕ
held_past pending.Held held piece = held ++ piece
held_past p held piece = held

-- a lexeme after which nothing comes
abbrev pub alone : Result (ℕ × Option Token) LexError → Result (List Token) LexError
alone (Ok p) = Ok (option_to_list p.1)
alone (Err e) = Err e

-- the token of a number of this value, or that it is too large
abbrev pub number_or_fault : (at len line value : ℕ) → Result (ℕ × Option Token) LexError
number_or_fault at len line value =
    if nat_le value largest then Ok (len, Some (token kind.Number at len line value []))
    else Err (error.NumberTooLarge line)

abbrev pub number_answer : (at len line value : ℕ) → Result (List Token) LexError
number_answer at len line value = alone (number_or_fault at len line value)

-- how a piece is cut after an open number that begins at `start`, and whose bytes before `fed` have this value
abbrev pub number_settled : (start value fed line : ℕ) → List ℕ → Settled
number_settled start value fed line piece =
    let n = length (take_while is_digit piece) in
    settle_on (number_or_fault start (fed + n - start) line (min (value_on value (take n piece)) (largest + 1)))
    (λ k. settle (drop n piece) 0 line (fed + n))

-- how a piece is cut after what is kept, where the piece ends it
abbrev pub ended : Pending → (held : List ℕ) → (fed line : ℕ) → List ℕ → Settled
ended pending.Nothing held fed line piece = settle piece 0 line fed
ended pending.Comment held fed line piece =
    let n = length (take_while not_line_feed piece) in settle (drop n piece) 0 line (fed + n)
ended (pending.Number at value) held fed line piece = number_settled at value fed line piece
ended pending.Held held fed line piece = settle (held ++ piece) 0 line (fed - length held)
ended (pending.Fault e) held fed line piece = ([], Fault e)

-- the token of an open name or symbol, if there is one
abbrev pub held_answer : List ℕ → (line at : ℕ) → Result (List Token) LexError
held_answer bytes line at = alone (cut_front bytes line at)

-- what is kept comes to this where no more bytes come
abbrev pub end_answer : Pending → (held : List ℕ) → (fed line : ℕ) → Result (List Token) LexError
end_answer pending.Nothing held fed line = Ok []
end_answer pending.Comment held fed line = Ok []
end_answer (pending.Number at value) held fed line = number_answer at (fed - at) line value
end_answer pending.Held held fed line = held_answer held line (fed - length held)
end_answer (pending.Fault e) held fed line = Err e

-- how much of what these bytes come to needs memory
abbrev pub wanted : Settled → ℕ
wanted r = length r.0 + length (held_in r.1)

-- how much of what these bytes come to needs memory, after what is kept: an open name or symbol needs some
abbrev pub wanted_past : Pending → Settled → ℕ
wanted_past pending.Held r = 1
wanted_past p r = wanted r

-- the tokens that came after those before, and what is kept of what is left
pub record IsNext (before : List Token) (r : Settled) (n : Next) : Type 0 where
  pub tokens : n.tokens.items ≡ before ++ r.0
  pub kept : IsKept r.1 n.line n.pending n.held.items

-- the line and the bytes that are kept are possible after so many bytes
pub record Fits (fed : ℕ) (n : Next) : Type 0 where
  pub line : n.line + length n.held.items ≤ fed + 1
  pub held : length n.held.items ≤ fed
  pub pending : IsPendingWithin n.pending fed
