-- What nodes, kept newest first, mean. A node's number is how many nodes were made before it.
use Rattle.std.specs.Prelude.{◌≡◌, ℕ, ◌+◌, ◌<◌, ◌≤◌, Bool, true, false, cond, nat_le, eqb, List, [], ◌∷◌, length, slice_index}
use Rattle.nk_store.specs.declared.node.Node.{Node}
use Rattle.nk_store.specs.declared.node.Node.TheVariants.{Leaf, Case}
use Rattle.nk_store.specs.declared.node.Out.{Out}
use Rattle.nk_store.specs.Leaves.{Strict, Every, Suits}

-- the child of the first part whose end is not below the value, else of the last part
abbrev pub child_at : ℕ → List (ℕ × ℕ) → ℕ → ℕ
child_at d [] v = d
child_at d (p ∷ ps) v = cond (nat_le v p.0) p.1 (child_at p.1 ps v)

-- node number i; past the nodes, an empty leaf
abbrev pub node_at : List Node → ℕ → Node
node_at [] i = Leaf []
node_at (n ∷ older) i = cond (eqb i (length older)) n (node_at older i)

-- whether a node is the leaf with no out
abbrev pub is_empty_leaf : Node → Bool
is_empty_leaf (Leaf []) = true
is_empty_leaf (Leaf (o ∷ os)) = false
is_empty_leaf (Case f ps) = false

-- the leaf that a node gives a packet, by those that its children give
abbrev pub node_look : Node → (ℕ → List Out) → List ℕ → List Out
node_look (Leaf outs) at pk = outs
node_look (Case f parts) at pk = at (child_at 0 parts (slice_index pk f))

-- the leaf that number i gives the packet
abbrev pub look_in : List Node → ℕ → List ℕ → List Out
look_in [] i pk = []
look_in (n ∷ older) i pk = cond (eqb i (length older)) (node_look n (λ c. look_in older c pk) pk) (look_in older i pk)

-- the field that a node tests; past all fields for a leaf
abbrev pub field_of_node : Node → ℕ
field_of_node (Leaf outs) = 18
field_of_node (Case f parts) = f

-- the field that number i tests; past all fields for a leaf
abbrev pub root_field_in : List Node → ℕ → ℕ
root_field_in ns i = field_of_node (node_at ns i)

-- ends rise strictly above low, and the last one is the highest value
abbrev pub Rises : ℕ → ℕ → List (ℕ × ℕ) → Type 0
Rises high low [] = low ≡ high + 1
Rises high low (p ∷ ps) = (low ≤ p.0) × (p.0 ≤ high) × Rises high (p.0 + 1) ps

-- each child has the property
abbrev pub Each : (ℕ → Type 0) → List (ℕ × ℕ) → Type 0
Each P [] = Unit {0}
Each P (p ∷ ps) = P p.1 × Each P ps

-- a node that is there, and tests fields after f alone
abbrev pub TestsLater : List Node → ℕ → ℕ → Type 0
TestsLater ns f c = (c < length ns) × (f < root_field_in ns c)

-- no part has the child of the part before it
abbrev pub Differ : ℕ → List (ℕ × ℕ) → Type 0
Differ c [] = Unit {0}
Differ c (p ∷ ps) = (p.1 ≡ c → ⊥) × Differ p.1 ps

-- two parts or more, neighbours with different children
abbrev pub Joined : List (ℕ × ℕ) → Type 0
Joined [] = ⊥
Joined (p ∷ ps) = (0 < length ps) × Differ p.1 ps

-- what holds of a node over those that were made before it
abbrev pub Fits : List ℕ → List Node → Node → Type 0
Fits maxes older (Leaf outs) = Strict outs × Every (Suits maxes) outs
Fits maxes older (Case f parts) = (f < 18) × Rises (slice_index maxes f) 0 parts × Each (TestsLater older f) parts × Joined parts

-- none of the nodes is this one
abbrev pub IsAbsent : Node → List Node → Type 0
IsAbsent n ns = (i : ℕ) → i < length ns → node_at ns i ≡ n → ⊥

-- each node fits, and none stands twice
abbrev pub Sound : List ℕ → List Node → Type 0
Sound maxes [] = Unit {0}
Sound maxes (n ∷ older) = Fits maxes older n × IsAbsent n older × Sound maxes older

-- each value is at most its field's highest
abbrev pub InRange : List ℕ → List ℕ → Type 0
InRange maxes pk = (length pk ≡ 18) × ((k : ℕ) → slice_index pk k ≤ slice_index maxes k)

-- the parts with neighbours of one child joined
abbrev pub joined : List (ℕ × ℕ) → List (ℕ × ℕ)
joined [] = []
joined (p ∷ []) = p ∷ []
joined (p ∷ q ∷ ps) = cond (eqb p.1 q.1) (joined (q ∷ ps)) (p ∷ joined (q ∷ ps))
