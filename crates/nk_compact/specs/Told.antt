-- What tells two classes apart, for any two in turn.
use Rattle.std.specs.Prelude.{◌≡◌, ℕ, zero, suc, ◌<◌, nat_lt, List, [], ◌∷◌, ◌++◌, if◌then◌else◌, length, slice_index, slice_index_or, All}
use Rattle.nk_store.specs.StoreState.{StoreState, Grows}
use Rattle.nk_determ.specs.Sets.{SetsGrow}
use Rattle.nk_determ.specs.Pairs.{AreLabelsBelow, AreStates}
use Rattle.nk_witness.specs.declared.found.Side.{Side}
use Rattle.nk_witness.specs.declared.found.Side.TheVariants.{Left, Right}
use Rattle.nk_group.specs.Matched.{Matched}
use Rattle.nk_merge.specs.Alike.{labels_after, tag_set}
use Rattle.nk_merge.specs.Distinguish.{IsLeastOfOne}
use Rattle.nk_compile.specs.Refusals.{found_from}
use Rattle.nk_compact.specs.declared.compact.DistinguishingHistory.{DistinguishingHistory}

-- of two numbers the first for the left side, the second for the right one
abbrev pub number_on_side : Side → ℕ → ℕ → ℕ
number_on_side Left i j = i
number_on_side Right i j = j

-- the labels after the set of the first member of a class, by its place
abbrev pub first_member_set : List (List ℕ) → List ℕ → List ℕ → ℕ → List ℕ
first_member_set ss tags firsts c = labels_after (tag_set ss tags (slice_index firsts c))

-- what tells the classes at these places apart: the least history that the state of one of both gives alone, and which of both
pub record IsDistinguished (st : StoreState) (states : List ℕ) (ss : List (List ℕ)) (tags firsts : List ℕ) (i j : ℕ) (a : DistinguishingHistory) : Type 0 where
  pub first_is : a.first ≡ suc i
  pub second_is : a.second ≡ suc j
  pub side : Side
  pub alone_is : a.alone ≡ number_on_side side a.first a.second
  pub least : IsLeastOfOne st states (first_member_set ss tags firsts i) (first_member_set ss tags firsts j) side (found_from a.start a.history)

-- the places below j after i, each beside i
abbrev pub pairs_after : ℕ → ℕ → List (ℕ × ℕ)
pairs_after i zero = []
pairs_after i (suc j) = pairs_after i j ++ (if nat_lt i j then (i, j) ∷ [] else [])

-- the rows of the first so many places
abbrev pub first_pairs : ℕ → ℕ → List (ℕ × ℕ)
first_pairs n zero = []
first_pairs n (suc i) = first_pairs n i ++ pairs_after i n

-- each pair in turn is told
abbrev pub AreDistinguished : StoreState → List ℕ → List (List ℕ) → List ℕ → List ℕ → List (ℕ × ℕ) → List DistinguishingHistory → Type 0
AreDistinguished st states ss tags firsts pairs aparts = Matched (λ q a. IsDistinguished st states ss tags firsts q.0 q.1 a) pairs aparts

-- a store and sets of the beginning, which have grown; the tags' sets are known there, and their labels are places of states
pub record IsBase (base : StoreState) (first : List (List ℕ)) (st : StoreState) (ss : List (List ℕ)) (states tags firsts : List ℕ) : Type 0 where
  pub grows : Grows base st
  pub sets : SetsGrow first ss
  pub states_are : AreStates base states
  pub known : All (λ s. s < length first) tags
  pub places : All (λ s. AreLabelsBelow (length states) (labels_after (slice_index_or first s []))) tags
  pub within : All (λ i. i < length tags) firsts
