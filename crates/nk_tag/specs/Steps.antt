-- The steps by which sets are numbered, level by level.
use Rattle.std.specs.Prelude.{◌≡◌, ℕ, ◌<◌, ◌↔◌, not, nat_eq, List, [], ◌++◌, map, filter, slice_index_or, AllPairs, Contains}
use Rattle.std.specs.List.{list_any}
use Rattle.std.specs.Ordering.{nat_cmp, ordering_then}
use Rattle.std.specs.Cmp.Lexicographic.{slice_cmp}
use Rattle.std.specs.declared.cmp.Ordering.{Ordering}
use Rattle.nk_field.specs.Order.{IsListedBefore}
use Rattle.nk_policy.specs.Labels.{IsWithoutDoubles}
use Rattle.nk_determ.specs.Pairs.{Named}
use Rattle.nk_tag.specs.Numbers.{IsNamedBefore}

-- the members of an entry's set, beside its number
abbrev pub set_of : List (List ℕ) → ℕ × ℕ → List ℕ × ℕ
set_of ss p = (slice_index_or ss p.0 [], p.0)

-- the sets of a level that are none of these
abbrev pub unseen : List (List ℕ) → List ℕ → List (ℕ × ℕ) → List (List ℕ × ℕ)
unseen ss numbers level = map (set_of ss) (filter (λ p. not (list_any (nat_eq p.0) numbers)) level)

-- sets are compared by their members, and then by their numbers
abbrev pub set_cmp : List ℕ × ℕ → List ℕ × ℕ → Ordering
set_cmp x y = ordering_then (slice_cmp nat_cmp x.0 y.0) (nat_cmp x.1 y.1)

-- after the old numbers stand those that the level names and that are none of them, by their members in dictionary order
pub record IsAdded (ss : List (List ℕ)) (level : List (ℕ × ℕ)) (old new : List ℕ) : Type 0 where
  pub more : List ℕ
  pub is : new ≡ old ++ more
  pub which : (s : ℕ) → Contains more s ↔ (Named level s × (Contains old s → ⊥))
  pub in_order : AllPairs (λ s t. IsListedBefore (slice_index_or ss s []) (slice_index_or ss t [])) more

-- the sets of so many levels, each once, in order
pub record AreBelow (levels : ℕ → List (ℕ × ℕ)) (ss : List (List ℕ)) (n : ℕ) (r : List ℕ) : Type 0 where
  pub exactly : (s : ℕ) → Contains r s ↔ ((j : ℕ) × (j < n) × Named (levels j) s)
  pub once : IsWithoutDoubles r
  pub in_order : AllPairs (IsNamedBefore levels ss) r
