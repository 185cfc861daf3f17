-- The sets at odd levels, numbered in order, and why they have no numbers.
pub use Rattle.nk_determ.specs.InOrder.{IsNamedAt, IsFirstAt, IsNamedBefore, AreInOrder, odd_level, later_level, IsAtOdd, IsFirstNaming, IsNumberedBefore, AreNumbers, AreLaterSets, AreEntries}
use Rattle.std.specs.Prelude.{◌≡◌, ℕ, ◌+◌, List}
use Rattle.nk_policy.specs.Labels.{AtLeast}
use Rattle.nk_tag.specs.declared.error.NumberError.{NumberError}
use Rattle.nk_tag.specs.declared.error.NumberError.TheVariants.{NoMemory, TooManyTags}

-- why there are no numbers: memory ran out, or there are at least as many sets as are told, one more than may be
abbrev pub IsNumberFault : List (List (ℕ × ℕ)) → ℕ → NumberError → Type 0
IsNumberFault ls max NoMemory = Unit {0}
IsNumberFault ls max (TooManyTags found) = (found ≡ max + 1) × AtLeast found (IsAtOdd ls)

-- why there are no numbers after the first so many tags: memory ran out, or with so many of the sets the tags are as many as
-- are told, one more than may be
abbrev pub IsFaultAfter : List (List (ℕ × ℕ)) → (first max : ℕ) → NumberError → Type 0
IsFaultAfter ls first max NoMemory = Unit {0}
IsFaultAfter ls first max (TooManyTags found) = (found ≡ max + 1) × ((n : ℕ) × AtLeast n (IsAtOdd ls) × (first + n ≡ found))
