-- What is kept of a text between two of its pieces.
use Rattle.std.specs.Prelude.{◌≡◌, ◌==◌, ◌+◌, ◌-◌, ◌≤◌, ℕ, List, [], ◌∷◌, if◌then◌else◌, fold, ◌*◌, length, min, ⊤}
use Rattle.nk_lex.specs.declared.unfinished.Pending.{Pending}
use Rattle.nk_lex.specs.declared.unfinished.Pending.TheVariants as pending
use Rattle.nk_lex.specs.Classes.{is_digit}
use Rattle.nk_lex.specs.Lex.{largest, value_of}
use Rattle.nk_lex.specs.Pieces.{Left, left_by, held_of, Rest, Fault}

-- the number that these digits write after a front of this value
abbrev pub value_on : ℕ → List ℕ → ℕ
value_on front digits = fold (λ n d. n * 10 + (d - 48)) front digits

-- which lexeme is open, where these bytes of it came, the first at this index
abbrev pub pending_of : ℕ → List ℕ → Pending
pending_of at [] = pending.Nothing
pending_of at (b ∷ rest) =
    if b == 35 then pending.Comment
    else if is_digit b then pending.Number at (min (value_of (b ∷ rest)) (largest + 1))
    else pending.Held

-- what is kept between two pieces: how many bytes came, the line and the kind of what is open, and the bytes of a name or symbol
pub record FeedState : Type 0 where
  pub fed : ℕ
  pub line : ℕ
  pub pending : Pending
  pub held : List ℕ

-- this is kept of what is left
abbrev pub IsKept : Left → (line : ℕ) → Pending → List ℕ → Type 0
IsKept (Rest l at bytes) line p held = (line ≡ l) × (p ≡ pending_of at bytes) × (held ≡ held_of bytes)
IsKept (Fault e) line p held = (p ≡ pending.Fault e) × (held ≡ [])

-- the bytes so far are this text
pub record IsFed (text : List ℕ) (s : FeedState) : Type 0 where
  pub fed : s.fed ≡ length text
  pub kept : IsKept (left_by text) s.line s.pending s.held

-- an open number begins at index `fed` at most, and its value is at most one above the largest
abbrev pub IsPendingWithin : Pending → ℕ → Type 0
IsPendingWithin (pending.Number at value) fed = (at ≤ fed) × (value ≤ largest + 1)
IsPendingWithin p fed = ⊤
