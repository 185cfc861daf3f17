-- What a call on a source or a sink says of its count of faults, and of the bytes that a sink took.
use Rattle.std.specs.Prelude.{◌≡◌, ℕ, ◌+◌, ◌-◌, ◌^◌, ◌≤◌, ◌<◌, min, List, length, take, OnOk, OnErr, MatchResult}
use Rattle.std.specs.declared.result.Result.{Result}
use Rattle.std.specs.declared.option.Option.{Option}
use Rattle.std.specs.Io.KnownBytes.{Appends, Keeps}

-- the largest value of a count, which is the largest u64
abbrev pub last_count : ℕ
last_count = 2 ^ 64 - 1

-- a number and one more, which stops at the last value of a count
abbrev pub next : ℕ → ℕ
next n = min (n + 1) last_count

-- the count rose, or stands at its last value
abbrev pub Rose : ℕ → ℕ → Type 0
Rose before now = next before ≤ now

-- The count never falls. A call fails only where it rose, and an Ok leaves it as it was.
pub record HasCause {T E : Type 0} (before now : ℕ) (result : Result T E) : Type 0 where
  pub later : before ≤ now
  pub failed : OnErr result (Rose before now)
  pub same : OnOk result (now ≡ before)

-- n bytes from the front of the piece were taken, at least one where there is one
pub record TakesFront (old new : Option (List ℕ)) (piece : List ℕ) (n : ℕ) : Type 0 where
  pub some : 0 < length piece → 0 < n
  pub most : n ≤ length piece
  pub bytes : Appends old new (take n piece)

-- a write took the front of the piece, or failed and took nothing
abbrev pub Takes : {E : Type 0} → Option (List ℕ) → Option (List ℕ) → Result ℕ E → List ℕ → Type 0
Takes old new result piece = MatchResult result (TakesFront old new piece) (λ _. Keeps old new)

-- a front of the piece was taken that isn't the whole of it, and nothing else
abbrev pub AppendsProperPrefix : Option (List ℕ) → Option (List ℕ) → List ℕ → Type 0
AppendsProperPrefix old new piece = (n : ℕ) × (n < length piece) × Appends old new (take n piece)
