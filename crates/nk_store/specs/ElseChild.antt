-- The else-child of a node by the numbers of its children: the child with the most values, and on a tie the one of the
-- least value.
use Rattle.std.specs.Prelude.{ℕ, ◌+◌, ◌-◌, ◌==◌, nat_lt, nat_eq, if◌then◌else◌, List, [], ◌∷◌, Option, Some, None}
use Rattle.std.specs.Map.{lookup}

-- an interval of values with the number of its child
pub record Span : Type 0 where
  pub first : ℕ
  pub last : ℕ
  pub child : ℕ

-- the intervals of a node, from a value on
abbrev pub spans : List (ℕ × ℕ) → ℕ → List Span
spans [] from = []
spans (p ∷ ps) from = record { first = from; last = p.0; child = p.1 } ∷ spans ps (p.0 + 1)

-- how many values have the child
abbrev pub size_of : ℕ → List Span → ℕ
size_of c [] = 0
size_of c (s ∷ ss) = (if c == s.child then s.last + 1 - s.first else 0) + size_of c ss

-- the child with the most values of all, the first of several
abbrev pub largest : List Span → ℕ → List (ℕ × ℕ) → ℕ
largest all best [] = best
largest all best (p ∷ ps) = if nat_lt (size_of best all) (size_of p.1 all) then largest all p.1 ps else largest all best ps

abbrev pub else_of : List (ℕ × ℕ) → ℕ
else_of [] = 0
else_of (p ∷ ps) = largest (spans (p ∷ ps) 0) p.1 (p ∷ ps)

-- the number that is kept for a child, 0 for none
abbrev pub or_none : Option ℕ → ℕ
or_none None = 0
or_none (Some n) = n

abbrev pub kept : List (ℕ × ℕ) → ℕ → ℕ
kept counts c = or_none (lookup (nat_eq c) counts)
