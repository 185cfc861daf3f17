-- The order of a leaf's outs.
use Rattle.std.specs.Prelude.{◌≡◌, ℕ, ◌+◌, ◌<◌, ◌≤◌, ◌↔◌, List, [], ◌∷◌, slice_index, Contains}
use Rattle.std.specs.declared.cmp.Ordering.{Ordering}
use Rattle.std.specs.declared.cmp.Ordering.TheVariants.{Less}
use Rattle.nk_store.specs.declared.node.Out.{Out}
use Rattle.nk_store.specs.contracts.node.OutOrd.TheImpl.{ghosts}

-- the order of outs
abbrev pub out_cmp : Out → Out → Ordering
out_cmp x y = ghosts.cmp x y

-- each out holds P
abbrev pub Every : (Out → Type 0) → List Out → Type 0
Every P [] = Unit {0}
Every P (x ∷ xs) = P x × Every P xs

-- each out is before all that follow
abbrev pub Strict : List Out → Type 0
Strict [] = Unit {0}
Strict (x ∷ xs) = Every (λ y. out_cmp x y ≡ Less) xs × Strict xs

-- assignments that ascend from the field low on, each value at most its field's highest
abbrev pub IsActFrom : List ℕ → ℕ → List (ℕ × ℕ) → Type 0
IsActFrom maxes low [] = Unit {0}
IsActFrom maxes low (s ∷ ss) = (low ≤ s.0) × (s.0 < 18) × (s.1 ≤ slice_index maxes s.0) × IsActFrom maxes (s.0 + 1) ss

-- the out's act ascends and assigns values in range
abbrev pub Suits : List ℕ → Out → Type 0
Suits maxes o = IsActFrom maxes 0 o.act

-- the second list has the outs of the first one in order, each once
pub record AreOrdered (outs r : List Out) : Type 0 where
  pub sorted : Strict r
  pub members : (o : Out) → Contains r o ↔ Contains outs o
