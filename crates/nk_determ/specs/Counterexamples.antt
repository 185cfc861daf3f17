-- Histories that follow set states and end at a violation.
use Rattle.std.specs.Prelude.{◌≡◌, ℕ, List, [], ◌∷◌, Contains}
use Rattle.nk_field.specs.Act.{applied}
use Rattle.nk_field.specs.Order.{Found}
use Rattle.nk_store.specs.declared.node.Out.{Out}
use Rattle.nk_store.specs.StoreState.{StoreState}
use Rattle.nk_determ.specs.Pairs.{Node, IsStart, IsStep}

-- the outs make the packet y, with that target
abbrev pub MakesWithTarget : List Out → List ℕ → List ℕ → ℕ → Type 0
MakesWithTarget outs pk y t = (g : List (ℕ × ℕ)) × Contains outs (record { act = g; target = t }) × (y ≡ applied g pk)

-- from m on these packets are recorded, each by one step, and the last step leads to n
abbrev pub Walks : (Node → Node → Type 0) → Node → List (List ℕ) → Node → Type 0
Walks Step m [] n = m ≡ n
Walks Step m (y ∷ u) n = (set : List ℕ) × Step m (set, y) × Walks Step (set, y) u n

-- the history starts at a packet that starts, its records follow the states' set states from the start set on, and its last
-- packet is made by a violation with that target of the set where the records end
pub record IsCounterexampleWithTarget (st : StoreState) (states set : List ℕ) (start : ℕ) (bad : List ℕ → List ℕ → List Out) (target : ℕ) (f : Found) : Type 0 where
  pub starts : IsStart st set start (set, f.start)
  pub end : Node
  pub walk : Walks (IsStep st states) (set, f.start) f.records end
  pub makes : MakesWithTarget (bad end.0 end.1) end.1 f.last target

-- the history is a counterexample with some target
abbrev pub IsCounterexample : StoreState → List ℕ → List ℕ → ℕ → (List ℕ → List ℕ → List Out) → Found → Type 0
IsCounterexample st states set start bad f = (target : ℕ) × IsCounterexampleWithTarget st states set start bad target f
