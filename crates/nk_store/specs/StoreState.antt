-- What contracts see of a store.
use Rattle.std.specs.Prelude.{◌≡◌, ℕ, ◌<◌, ◌≤◌, ◌-◌, ◌++◌, List, Option, Some, length, replicate, slice_index, slice_set}
use Rattle.std.specs.Map.{lookup}
use Rattle.nk_field.specs.Packet.{FieldTable}
use Rattle.nk_store.specs.declared.node.Node.{Node}
use Rattle.nk_store.specs.declared.node.Node.TheVariants.{Leaf, Case}
use Rattle.nk_store.specs.declared.node.Out.{Out}
use Rattle.nk_store.specs.declared.operation.Operation.{Operation}
use Rattle.nk_store.specs.declared.operation.Key.{Key}
use Rattle.nk_store.specs.Keys.{key_eq, key_of}
use Rattle.nk_store.specs.Leaves.{Strict, Every, Suits}
use Rattle.nk_store.specs.Nodes.{child_at, node_at, look_in, root_field_in, Rises, Each, Joined, InRange}

-- the nodes, newest first; the highest value at each of eighteen indices, 0 where no field is; how many fields there are,
-- the switch and the port among them; which of them is the tag; and the answers of operations that are kept, each with what
-- it is found by
pub record StoreState : Type 0 where
  pub nodes : List Node
  pub maxes : List ℕ
  pub width : ℕ
  pub tag : Option ℕ
  pub kept : List (Key × ℕ)

-- the store is over these fields
pub record IsOver (fields : FieldTable) (st : StoreState) : Type 0 where
  pub maxes : st.maxes ≡ fields.maxima ++ replicate (18 - length fields.maxima) 0
  pub width : st.width ≡ length fields.maxima
  pub tag : st.tag ≡ fields.tag

-- eighteen highest values, those of the fields in front, only 0 after them, and the tag after the port
pub record HasFields (st : StoreState) : Type 0 where
  pub places : length st.maxes ≡ 18
  pub few : st.width ≤ 18
  pub two : 2 ≤ st.width
  pub past : (f : ℕ) → st.width ≤ f → slice_index st.maxes f ≡ 0
  pub tag_past_port : (f : ℕ) → st.tag ≡ Some f → (2 ≤ f) × (f < st.width)

-- a number of one of the nodes
unfoldable pub IsId : StoreState → ℕ → Type 0
IsId st d = d < length st.nodes

-- the node of a number
unfoldable pub node_of : StoreState → ℕ → Node
node_of st d = node_at st.nodes d

-- the leaf that a number gives a packet
unfoldable pub look : StoreState → ℕ → List ℕ → List Out
look st d pk = look_in st.nodes d pk

-- the first field that a number depends on; 18 for none
unfoldable pub root_field : StoreState → ℕ → ℕ
root_field st d = root_field_in st.nodes d

-- the answer that is kept of an operation on two diagrams; None where none is
unfoldable pub recalled : StoreState → Operation → ℕ → ℕ → Option ℕ
recalled st operation a b = lookup (key_eq (key_of operation a b)) st.kept

-- a packet of the store's fields, with each value in its range
abbrev pub IsStorePacket : StoreState → List ℕ → Type 0
IsStorePacket st pk = InRange st.maxes pk

-- the numbers of the old store are numbers of the new one, with the same nodes and leaves, and what was kept is kept still
pub record Grows (old new : StoreState) : Type 0 where
  pub ids : (d : ℕ) → IsId old d → IsId new d
  pub nodes : (d : ℕ) → IsId old d → node_of new d ≡ node_of old d
  pub root_fields : (d : ℕ) → IsId old d → root_field new d ≡ root_field old d
  pub leaves : (d : ℕ) (pk : List ℕ) → IsId old d → look new d pk ≡ look old d pk
  pub maxes : new.maxes ≡ old.maxes
  pub width : new.width ≡ old.width
  pub tag : new.tag ≡ old.tag
  pub kept : (operation : Operation) (a b d : ℕ) → recalled old operation a b ≡ Some d → recalled new operation a b ≡ Some d

-- a packet has eighteen values
abbrev pub IsWhole : List ℕ → Type 0
IsWhole pk = length pk ≡ 18

-- the number gives each packet the leaf that the function gives
pub record HasLeaves (st : StoreState) (d : ℕ) (F : List ℕ → List Out) : Type 0 where
  pub id : IsId st d
  pub leaf : (pk : List ℕ) → IsWhole pk → look st d pk ≡ F pk

-- a child of a node that tests f
pub record IsChild (st : StoreState) (f c : ℕ) : Type 0 where
  pub id : IsId st c
  pub later : f < root_field st c

-- parts that can be made a node
pub record AreParts (st : StoreState) (f : ℕ) (parts : List (ℕ × ℕ)) : Type 0 where
  pub field : f < 18
  pub rise : Rises (slice_index st.maxes f) 0 parts
  pub children : Each (IsChild st f) parts

-- what is known of a number's node
pub record IsCase (st : StoreState) (d f : ℕ) (parts : List (ℕ × ℕ)) : Type 0 where
  pub parts_ok : AreParts st f parts
  pub below : Each (λ c. c < d) parts
  pub joined : Joined parts
  pub root_field_is : root_field st d ≡ f
  pub leaf : (pk : List ℕ) → look st d pk ≡ look st (child_at 0 parts (slice_index pk f)) pk

-- what is known of a leaf's number
pub record IsLeaf (st : StoreState) (d : ℕ) (outs : List Out) : Type 0 where
  pub root_field_is : root_field st d ≡ 18
  pub leaf : (pk : List ℕ) → look st d pk ≡ outs
  pub sorted : Strict outs
  pub suits : Every (Suits st.maxes) outs

-- what is known of a number by its node
abbrev pub IsNodeOf : StoreState → ℕ → Node → Type 0
IsNodeOf st d (Leaf outs) = IsLeaf st d outs
IsNodeOf st d (Case f parts) = IsCase st d f parts

-- a leaf depends on no field before the one that is tested first
pub record IsStill (st : StoreState) (d : ℕ) : Type 0 where
  pub leaf : (f v : ℕ) (pk : List ℕ) → f < root_field st d → look st d (slice_set pk f v) ≡ look st d pk

-- a number whose leaf is the same whatever the value of a field doesn't test that field first
pub record IsReduced (st : StoreState) (d : ℕ) : Type 0 where
  pub tests : (f : ℕ) → f < 18 → root_field st d ≡ f →
      ((v : ℕ) (pk : List ℕ) → IsWhole pk → look st d (slice_set pk f v) ≡ look st d pk) → ⊥

-- two numbers give each packet of the fields the same leaf
abbrev pub Agree : StoreState → ℕ → ℕ → Type 0
Agree st d e = (pk : List ℕ) → IsStorePacket st pk → look st d pk ≡ look st e pk

-- diagrams that agree are one
abbrev pub IsCanonical : StoreState → Type 0
IsCanonical st = (d e : ℕ) → IsId st d → IsId st e → Agree st d e → d ≡ e

-- each leaf of a number ascends strictly, and its acts assign values in range
pub record IsTidy (st : StoreState) (d : ℕ) : Type 0 where
  pub sorted : (pk : List ℕ) → Strict (look st d pk)
  pub suits : (pk : List ℕ) → Every (Suits st.maxes) (look st d pk)

-- each number is so
abbrev pub AreTidy : StoreState → Type 0
AreTidy st = (d : ℕ) → IsTidy st d
