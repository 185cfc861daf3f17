-- An input that is read piece by piece: what a call gives, and when each error comes.
use Rattle.std.specs.Prelude.{◌≡◌, ℕ, ◌+◌, ◌<◌, ◌≤◌, List, [], length, take, min, Some, None, ⊤}
use Rattle.std.specs.declared.option.Option.{Option}
use Rattle.std.specs.Io.KnownBytes.{Consumes, Keeps}
use Rattle.nk_io.specs.declared.by_piece.PieceError.{PieceError}
use Rattle.nk_io.specs.declared.by_piece.PieceError.TheVariants.{ReadFault, TooLong}
use Rattle.nk_io.specs.Faults.{Rose, last_count}

-- the most bytes that one input may have
abbrev pub longest : ℕ
longest = 16777216

-- n bytes were read into the front of the slice, and the count of all bytes goes on by them, up to the last u64
pub record GivesPiece (old new : Option (List ℕ)) (before now : ℕ) (into : List ℕ) (n : ℕ) : Type 0 where
  pub fits : n ≤ length into
  pub bytes : Consumes old new (take n into)
  pub count : now ≡ min (before + n) last_count

-- no byte was given exactly where none was left, where the source tells what is left
abbrev pub IsNoneAtEnd : Option (List ℕ) → ℕ → Type 0
IsNoneAtEnd None n = ⊤
IsNoneAtEnd (Some left) n = (n ≡ 0 → left ≡ []) × (left ≡ [] → n ≡ 0)

-- A read fault comes only where the source's count rose, and nothing was read. Too long comes where the bytes so far,
-- those that this call read among them, are more than an input may have.
abbrev pub IsPieceCause : (old new : Option (List ℕ)) (before now : ℕ) (faults_before faults_now : ℕ) (into : List ℕ)
    → PieceError → Type 0
IsPieceCause old new before now faults_before faults_now into ReadFault =
    Rose faults_before faults_now × (now ≡ before) × Keeps old new
IsPieceCause old new before now faults_before faults_now into TooLong =
    (faults_now ≡ faults_before) × (longest < now) × (n : ℕ) × GivesPiece old new before now into n
