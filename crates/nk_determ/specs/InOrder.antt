-- The sets that levels name, in order: those that are named first come first, and of one level the members in dictionary
-- order; those at odd levels (Smolka et al., ICFP 2015: a tag for each state of the automaton), and those after the first.
use Rattle.std.specs.Prelude.{◌≡◌, ℕ, suc, ◌+◌, ◌*◌, ◌<◌, ◌⊎◌, ◌↔◌, List, [], length, slice_index_or, All, Contains, AllPairs}
use Rattle.nk_field.specs.Order.{IsListedBefore}
use Rattle.nk_policy.specs.Labels.{IsWithoutDoubles}
use Rattle.nk_determ.specs.Pairs.{Named, Once}

-- for levels by their places: the sets that they name
module _ (levels : ℕ → List (ℕ × ℕ)) where
  -- one of these levels names the set
  abbrev pub IsNamedAt : ℕ → Type 0
  IsNamedAt s = (j : ℕ) × Named (levels j) s

  -- the first of them that does
  pub record IsFirstAt (s j : ℕ) : Type 0 where
    pub named : Named (levels j) s
    pub first : (k : ℕ) → k < j → Named (levels k) s → ⊥

  -- the first set comes before the second: it is named first by an earlier level, or by the same one and its members are
  -- first in dictionary order
  abbrev pub IsNamedBefore : List (List ℕ) → ℕ → ℕ → Type 0
  IsNamedBefore ss s t =
      (j : ℕ) × (k : ℕ) × IsFirstAt s j × IsFirstAt t k
      × ((j < k) ⊎ ((j ≡ k) × IsListedBefore (slice_index_or ss s []) (slice_index_or ss t [])))

  -- the sets that they name, each once, in order
  pub record AreInOrder (ss : List (List ℕ)) (r : List ℕ) : Type 0 where
    pub exactly : (s : ℕ) → Contains r s ↔ IsNamedAt s
    pub once : IsWithoutDoubles r
    pub in_order : AllPairs (IsNamedBefore ss) r

-- the entries of the odd level with this place among the odd levels, none where there is no such level
abbrev pub odd_level : List (List (ℕ × ℕ)) → ℕ → List (ℕ × ℕ)
odd_level ls j = slice_index_or ls (2 * j + 1) []

-- the entries of the level with this place after the first one, none where there is no such level
abbrev pub later_level : List (List (ℕ × ℕ)) → ℕ → List (ℕ × ℕ)
later_level ls j = slice_index_or ls (suc j) []

-- some odd level names the set
abbrev pub IsAtOdd : List (List (ℕ × ℕ)) → ℕ → Type 0
IsAtOdd ls s = IsNamedAt (odd_level ls) s

-- the first odd level that names the set
abbrev pub IsFirstNaming : List (List (ℕ × ℕ)) → ℕ → ℕ → Type 0
IsFirstNaming ls s j = IsFirstAt (odd_level ls) s j

-- the first set comes before the second at odd levels
abbrev pub IsNumberedBefore : List (List ℕ) → List (List (ℕ × ℕ)) → ℕ → ℕ → Type 0
IsNumberedBefore ss ls = IsNamedBefore (odd_level ls) ss

-- the sets at odd levels, each once, in order
abbrev pub AreNumbers : List (List ℕ) → List (List (ℕ × ℕ)) → List ℕ → Type 0
AreNumbers ss ls r = AreInOrder (odd_level ls) ss r

-- the sets at levels after the first one, each once, in order
abbrev pub AreLaterSets : List (List ℕ) → List (List (ℕ × ℕ)) → List ℕ → Type 0
AreLaterSets ss ls r = AreInOrder (later_level ls) ss r

-- each level's entries are of known sets, a set once
abbrev pub AreEntries : List (List ℕ) → List (List (ℕ × ℕ)) → Type 0
AreEntries ss ls = (i : ℕ) → i < length ls →
    All (λ p. p.0 < length ss) (slice_index_or ls i []) × Once (slice_index_or ls i [])
