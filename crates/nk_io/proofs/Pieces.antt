-- Pieces that are written or read one after another.
use Rattle.std.proofs.Common.{ℕ, ◌+◌, ◌≤◌, ◌<◌, List, length, ◌++◌, take, drop, append_assoc, arith}
use Rattle.std.proofs.Math.Seq.{take-add}
use Rattle.std.proofs.lemmas.List.{length-append, length-take}
use Rattle.std.proofs.KnownBytes.{Consumes-trans}
use Rattle.std.specs.declared.option.Option.{Option}
use Rattle.std.specs.Prelude.{Some, None}
use Rattle.std.specs.Io.KnownBytes.{Appends, Consumes}
use Rattle.nk_io.specs.Reading.{GaveMore, GaveWithin}

-- a front, and then a front of the rest
pub Appends-two : (old mid new : Option (List ℕ)) (i n : ℕ) (xs : List ℕ)
    → Appends old mid (take i xs) → Appends mid new (take n (drop i xs))
    → Appends old new (take (i + n) xs)
Appends-two None mid new i n xs a b = tt
Appends-two (Some x) None new i n xs a b = absurd a
Appends-two (Some x) (Some y) None i n xs a b = absurd b
Appends-two (Some x) (Some y) (Some z) i n xs a b =
    rw (b, a, take-add) (append_assoc x (take i xs) (take n (drop i xs)))

-- bytes within the limit, and then a piece that goes past it
pub more_given : (old mid new : Option (List ℕ)) (bytes piece : List ℕ) (n limit : ℕ)
    → n ≤ length piece → limit < length bytes + n
    → Consumes old mid bytes → Consumes mid new (take n piece) → GaveMore limit old new
more_given old mid new bytes piece n limit most past a b = (
  bytes ++ take n piece,
  rw (length-append, length-take) (omega arith),
  Consumes-trans old mid new bytes (take n piece) a b,
)

-- bytes within the limit, and then a piece that stays within it
pub within_given : (old mid new : Option (List ℕ)) (bytes piece : List ℕ) (n limit : ℕ)
    → n ≤ length piece → length bytes + n ≤ limit
    → Consumes old mid bytes → Consumes mid new (take n piece) → GaveWithin limit old new
within_given old mid new bytes piece n limit most fits a b = (
  bytes ++ take n piece,
  rw (length-append, length-take) (omega arith),
  Consumes-trans old mid new bytes (take n piece) a b,
)
