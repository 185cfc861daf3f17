-- Sets of labels, each once.
use Rattle.std.specs.Prelude.{◌≡◌, ℕ, ◌<◌, Bool, nat_eq, List, [], ◌∷◌, ◌++◌, if◌then◌else◌, length, slice_index_or}
use Rattle.std.specs.List.{list_any, position_or_len}
use Rattle.std.specs.List.Sorted.{IsStrictlyIncreasing}
use Rattle.std.specs.Cmp.Lexicographic.{pointwise}

-- the old sets, and more after them
abbrev pub SetsGrow : List (List ℕ) → List (List ℕ) → Type 0
SetsGrow old new = (more : List (List ℕ)) × (new ≡ old ++ more)

-- whether these labels are one of the sets
abbrev pub holds : List (List ℕ) → List ℕ → Bool
holds sets labels = list_any (pointwise nat_eq labels) sets

-- the sets with these labels, which go last where they are none of the sets
abbrev pub with_set : List (List ℕ) → List ℕ → List (List ℕ)
with_set sets labels = if holds sets labels then sets else sets ++ labels ∷ []

-- the first place of these labels among the sets, or how many sets there are
abbrev pub place_in : List (List ℕ) → List ℕ → ℕ
place_in sets labels = position_or_len (pointwise nat_eq labels) sets

-- the number of the set with these labels
pub record IsSetOf (sets : List (List ℕ)) (i : ℕ) (labels : List ℕ) : Type 0 where
  pub within : i < length sets
  pub members : slice_index_or sets i [] ≡ labels

-- two numbers with equal members are one
abbrev pub HasEachSetOnce : List (List ℕ) → Type 0
HasEachSetOnce sets = (i j : ℕ) → i < length sets → j < length sets → slice_index_or sets i [] ≡ slice_index_or sets j [] → i ≡ j

-- the labels of each set ascend
abbrev pub HasAscendingSets : List (List ℕ) → Type 0
HasAscendingSets sets = (i : ℕ) → IsStrictlyIncreasing (slice_index_or sets i [])
