-- Histories that follow set states and end at a violation, and the least of them.
pub use Rattle.nk_determ.specs.Counterexamples.{Walks, IsCounterexampleWithTarget, IsCounterexample}
use Rattle.std.specs.Prelude.{◌≡◌, ℕ, zero, suc, ◌⊎◌, List, [], ◌∷◌, length}
use Rattle.nk_field.specs.Order.{Found, Precedes}
use Rattle.nk_store.specs.declared.node.Out.{Out}
use Rattle.nk_store.specs.StoreState.{StoreState}
use Rattle.nk_determ.specs.Pairs.{Node, IsStart, IsStep}
use Rattle.nk_determ.specs.Levels.{IsViolation}
use Rattle.nk_determ.specs.Counterexamples.{MakesWithTarget}

-- something bad is met in exactly so many steps
abbrev pub LeadsToViolation : (Node → Node → Type 0) → (Node → Type 0) → ℕ → Node → Type 0
LeadsToViolation Step IsViolation zero n = IsViolation n
LeadsToViolation Step IsViolation (suc k) n = (m : Node) × Step n m × LeadsToViolation Step IsViolation k m

-- the packet is the other, or comes before it
abbrev pub PrecedesOrEquals : List ℕ → List ℕ → Type 0
PrecedesOrEquals x y = (x ≡ y) ⊎ Precedes x y

-- these are the first records of a walk of so many steps from m on, and n is met after them: each record is the least of
-- those from where something bad is met in the steps that are left
abbrev pub IsLeastWalk : (Node → Node → Type 0) → (Node → Type 0) → ℕ → Node → List (List ℕ) → Node → Type 0
IsLeastWalk Step IsViolation k m [] n = m ≡ n
IsLeastWalk Step IsViolation zero m (y ∷ u) n = ⊥
IsLeastWalk Step IsViolation (suc k) m (y ∷ u) n =
    (set : List ℕ) × Step m (set, y) × ((q : Node) → Step m q → LeadsToViolation Step IsViolation k q → PrecedesOrEquals y q.1) × IsLeastWalk Step IsViolation k (set, y) u n

-- what makes a history the least one: the least start from where something bad is met in h steps, the least walk from it,
-- and the least packet that the violations make there
pub record IsGreedy (st : StoreState) (states set : List ℕ) (start : ℕ) (bad : List ℕ → List ℕ → List Out) (h : ℕ) (f : Found) (n : Node) (target : ℕ) : Type 0 where
  pub starts : IsStart st set start (set, f.start)
  pub first : (y : List ℕ) → IsStart st set start (set, y) → LeadsToViolation (IsStep st states) (IsViolation bad) h (set, y) → PrecedesOrEquals f.start y
  pub walk : IsLeastWalk (IsStep st states) (IsViolation bad) h (set, f.start) f.records n
  pub count : length f.records ≡ h
  pub makes : MakesWithTarget (bad n.0 n.1) n.1 f.last target
  pub last : (y : List ℕ) (t : ℕ) → MakesWithTarget (bad n.0 n.1) n.1 y t → PrecedesOrEquals f.last y
