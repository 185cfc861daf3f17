-- What a run did to a source or a sink.
use Rattle.std.specs.Prelude.{◌≡◌, ℕ, List}
use Rattle.std.specs.declared.option.Option.{Option}
use Rattle.std.specs.Io.KnownBytes.{Appends, Keeps}
use Rattle.nk_io.specs.Faults.{AppendsProperPrefix, Rose}
use Rattle.nk_io.specs.Reading.{IsAllOf}

-- the bytes that were left or taken, where they are told, and the count of faults, before the run
-- and after it
pub record Use : Type 0 where
  pub old : Option (List ℕ)
  pub new : Option (List ℕ)
  pub before : ℕ
  pub now : ℕ

-- what was done to an object that was x and is y
abbrev pub use_of : {X : Type 0} → (X → Option (List ℕ)) → (X → ℕ) → X → X → Use
use_of bytes faults x y =
    record { old = bytes x; new = bytes y; before = faults x; now = faults y }

-- the bytes are all that the source had left, where it tells them
abbrev pub HadLeft : Use → List ℕ → Type 0
HadLeft source bytes = IsAllOf source.old bytes

-- no call on it failed
abbrev pub IsQuiet : Use → Type 0
IsQuiet u = u.now ≡ u.before

-- a call on it failed, or its count stands at the last value
abbrev pub HasRisen : Use → Type 0
HasRisen u = Rose u.before u.now

-- the sink took exactly these bytes, and no call failed
pub record Took (sink : Use) (bytes : List ℕ) : Type 0 where
  pub taken : Appends sink.old sink.new bytes
  pub quiet : IsQuiet sink

-- nothing was taken, and no call failed
pub record IsUntouched (u : Use) : Type 0 where
  pub same : Keeps u.old u.new
  pub quiet : IsQuiet u

-- the sink failed: it took a front of these bytes that isn't the whole of them
pub record FailedAt (sink : Use) (bytes : List ℕ) : Type 0 where
  pub rose : HasRisen sink
  pub part : AppendsProperPrefix sink.old sink.new bytes
