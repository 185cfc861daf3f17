-- A diagram at one value of its first field.
use Rattle.std.specs.Prelude.{◌≡◌, ℕ, ◌<◌, ◌≤◌, cond, eqb, nat_le, min, List, [], ◌∷◌, slice_index}
use Rattle.nk_store.specs.declared.node.Node.{Node}
use Rattle.nk_store.specs.declared.node.Node.TheVariants.{Leaf, Case}
use Rattle.nk_store.specs.Nodes.{child_at}
use Rattle.nk_store.specs.StoreState.{StoreState, node_of, look, root_field, IsChild}

-- what a diagram d is at the value v of f, by its node
abbrev pub cofactor_of_node : Node → ℕ → ℕ → ℕ → ℕ
cofactor_of_node (Leaf outs) f v d = d
cofactor_of_node (Case g ps) f v d = cond (eqb g f) (child_at 0 ps v) d

-- the child for that value of f where the diagram tests f first, else the diagram
unfoldable pub cofactor : StoreState → ℕ → ℕ → ℕ → ℕ
cofactor st f v d = cofactor_of_node (node_of st d) f v d

-- the first part whose end is not below the value
abbrev pub found_in : ℕ × ℕ → List (ℕ × ℕ) → ℕ → ℕ × ℕ
found_in last [] v = last
found_in last (p ∷ ps) v = cond (nat_le v p.0) p (found_in p ps v)

-- what the diagram d is at the value v of f: the number p.1, up to the value p.0
pub record IsPart (st : StoreState) (f d v : ℕ) (p : ℕ × ℕ) : Type 0 where
  pub from : v ≤ p.0
  pub within : p.0 ≤ slice_index st.maxes f
  pub same : (w : ℕ) → v ≤ w → w ≤ p.0 → cofactor st f w d ≡ p.1
  pub child : IsChild st f p.1
  pub below : p.1 ≤ d
  pub less : root_field st d ≡ f → p.1 < d

-- the diagram is put together from what it is at each value of f
pub record IsSplit (st : StoreState) (f d : ℕ) : Type 0 where
  pub leaf : (pk : List ℕ) → look st d pk ≡ look st (cofactor st f (slice_index pk f) d) pk
  pub past : (w : ℕ) → slice_index st.maxes f ≤ w → cofactor st f w d ≡ cofactor st f (slice_index st.maxes f) d
  pub child : (w : ℕ) → IsChild st f (cofactor st f w d)

-- the first field that one of two diagrams tests
pub record IsFirst (st : StoreState) (a b f : ℕ) : Type 0 where
  pub field : f < 18
  pub least : f ≡ min (root_field st a) (root_field st b)
  pub left : IsSplit st f a
  pub right : IsSplit st f b
