-- What was read of a source, and when each error of `read_all` comes.
use Rattle.std.specs.Prelude.{◌≡◌, ℕ, ◌<◌, ◌≤◌, List, length, Some, None, ⊤}
use Rattle.std.specs.declared.option.Option.{Option}
use Rattle.std.specs.Io.KnownBytes.{Consumes}
use Rattle.nk_io.specs.declared.whole.ReadError.{ReadError}
use Rattle.nk_io.specs.declared.whole.ReadError.TheVariants.{NoMemory, ReadFault, TooLong}
use Rattle.nk_io.specs.Faults.{Rose}

-- the bytes are all that was left, where the source tells that
abbrev pub IsAllOf : Option (List ℕ) → List ℕ → Type 0
IsAllOf None bytes = ⊤
IsAllOf (Some left) bytes = bytes ≡ left

-- the source tells that more than `limit` bytes are left
abbrev pub IsLonger : ℕ → Option (List ℕ) → Type 0
IsLonger limit None = ⊥
IsLonger limit (Some left) = limit < length left

-- at most `limit` bytes were taken from the source's front
abbrev pub GaveWithin : ℕ → Option (List ℕ) → Option (List ℕ) → Type 0
GaveWithin limit old new = (bytes : List ℕ) × (length bytes ≤ limit) × Consumes old new bytes

-- more than `limit` bytes were taken from the source's front
abbrev pub GaveMore : ℕ → Option (List ℕ) → Option (List ℕ) → Type 0
GaveMore limit old new = (bytes : List ℕ) × (limit < length bytes) × Consumes old new bytes

-- A read fault comes only where the count rose, and the count is as it was at each other error.
-- Too long comes only where the source gave more than `limit` bytes.
abbrev pub IsCause : ℕ → Option (List ℕ) → Option (List ℕ) → ℕ → ℕ → ReadError → Type 0
IsCause limit old new before now NoMemory = (now ≡ before) × GaveWithin limit old new
IsCause limit old new before now ReadFault = Rose before now × GaveWithin limit old new
IsCause limit old new before now TooLong = (now ≡ before) × GaveMore limit old new
