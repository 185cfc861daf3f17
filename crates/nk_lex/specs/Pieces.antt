-- A text that comes in pieces: the tokens that the bytes so far complete, and what they leave open.
use Rattle.std.specs.Prelude.{◌≡◌, ◌==◌, ◌+◌, ◌-◌, ◌||◌, ◌++◌, ℕ, zero, suc, Bool, true, false, List, [], ◌∷◌, Option, Some, None, Ok, Err, if◌then◌else◌}
use Rattle.std.specs.List.{list_all}
use Rattle.std.specs.declared.result.Result.{Result}
use Rattle.nk_lex.specs.declared.token.Token.{Token}
use Rattle.nk_lex.specs.declared.token.LexError.{LexError}
use Rattle.nk_lex.specs.Classes.{is_digit, is_name_byte, is_name_start, is_white, not_line_feed}
use Rattle.nk_lex.specs.Lex.{cut, front_of, line_after, tokens_of}
use Rattle.nk_lex.specs.Spans.{tokens_before_fault}

-- alone, the byte is a symbol that a second byte makes longer, or begins one
abbrev pub begins_longer : ℕ → Bool
begins_longer b = b == 61 || b == 58 || b == 45 || b == 46

abbrev pub is_empty : List ℕ → Bool
is_empty [] = true
is_empty (b ∷ bs) = false

-- the lexeme that begins with b takes all of these bytes, and a further byte could make it longer
abbrev pub is_open : ℕ → List ℕ → Bool
is_open b rest =
    if is_white b then false
    else if b == 35 then list_all not_line_feed rest
    else if is_name_start b then list_all is_name_byte rest
    else if is_digit b then list_all is_digit rest
    else if begins_longer b then is_empty rest
    else false

-- what stands after the lexemes that are complete: the bytes of an open one, with the line and the index where they begin, or a fault
pub data Left : Type 0 where
  Rest : (line at : ℕ) → List ℕ → Left
  Fault : LexError → Left

-- the tokens that are complete, and what stands after them
abbrev pub Settled : Type 0
Settled = List Token × Left

abbrev pub with_complete : Option Token → Settled → Settled
with_complete None r = r
with_complete (Some t) r = (t ∷ r.0, r.1)

abbrev pub settle_on : Result (ℕ × Option Token) LexError → (ℕ → Settled) → Settled
settle_on (Ok p) next = with_complete p.1 (next p.0)
settle_on (Err e) next = ([], Fault e)

-- How bytes are cut that more bytes may follow: up to a lexeme that is open, or up to the first fault. The first byte has the
-- index `at` in the text. The first `skip` bytes belong to the lexeme before, and `line` is the line of the first byte after it.
abbrev pub settle : List ℕ → (skip line at : ℕ) → Settled
settle [] skip line at = ([], Rest line at [])
settle (b ∷ rest) zero line at =
    if is_open b rest then ([], Rest line at (b ∷ rest))
    else settle_on (cut (front_of b rest) line at (b ∷ rest)) (λ n. settle rest (n - 1) (line_after line b) (at + 1))
settle (b ∷ rest) (suc skip) line at = settle rest skip line (at + 1)

-- the tokens that the text completes, up to its first fault: a token is complete where no further byte makes it longer
abbrev pub completed : List ℕ → List Token
completed text = (settle text 0 1 0).0

-- what the text leaves after them
abbrev pub left_by : List ℕ → Left
left_by text = (settle text 0 1 0).1

-- the bytes of an open lexeme, where it is a name or a symbol
abbrev pub held_of : List ℕ → List ℕ
held_of [] = []
held_of (b ∷ rest) = if b == 35 then [] else if is_digit b then [] else b ∷ rest

-- the bytes of an open name or symbol in what stands after the complete lexemes
abbrev pub held_in : Left → List ℕ
held_in (Rest line at bytes) = held_of bytes
held_in (Fault e) = []

-- the bytes of the name or symbol that is open at the end of the text, none where none is
abbrev pub open_in : List ℕ → List ℕ
open_in text = held_in (left_by text)

-- a lexeme that these bytes complete has this fault, and none before it has one
abbrev pub HasLexicalFault : List ℕ → LexError → Type 0
HasLexicalFault text e = left_by text ≡ Fault e

-- the piece completes no token after the text, and leaves no name and no symbol open
abbrev pub CompletesNothing : List ℕ → List ℕ → Type 0
CompletesNothing text piece = (completed (text ++ piece) ≡ completed text) × (open_in (text ++ piece) ≡ [])

-- one list begins with the other
abbrev pub Begins : List Token → List Token → Type 0
Begins ts us = (vs : List Token) × (us ≡ ts ++ vs)

-- these tokens stand at the front, whatever bytes come after the text
abbrev pub Stay : List ℕ → List Token → Type 0
Stay text ts = (more : List ℕ) → Begins ts (tokens_before_fault (text ++ more))

-- the tokens that are complete stay, whatever bytes come, and no others do
abbrev pub CompletedStay : Type 0
CompletedStay = (text : List ℕ) → Stay text (completed text) × ((ts : List Token) → Stay text ts → Begins ts (completed text))

-- whatever bytes come after a fault, no token is completed, and the fault is the first one of the whole text
abbrev pub FaultsStay : Type 0
FaultsStay = (text : List ℕ) (e : LexError) → HasLexicalFault text e → (more : List ℕ)
    → HasLexicalFault (text ++ more) e × (completed (text ++ more) ≡ completed text) × (tokens_of (text ++ more) ≡ Err e)
