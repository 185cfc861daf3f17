-- The printed tables of a policy where tag sets whose states give the same histories share one tag, the number of their class.
-- At each packet the first member of a class under which the packet is met acts for the class.
use Rattle.std.specs.Prelude.{◌≡◌, ℕ, zero, suc, ◌+◌, ◌<◌, ◌⊎◌, ◌↔◌, Some, List, [], length, map, slice_get, slice_index, slice_index_or, Contains, All}
use Rattle.std.specs.List.Sorted.{IsStrictlyIncreasing}
use Rattle.nk_field.specs.declared.packet.Packet.{Packet}
use Rattle.nk_field.specs.Packet.{FieldTable, IsPacket, erased}
use Rattle.nk_topo.specs.Topology.{Topology}
use Rattle.nk_policy.specs.Policy.{Policy}
use Rattle.nk_policy.specs.Meaning.{Gives}
use Rattle.nk_policy.specs.After.{after}
use Rattle.nk_policy.specs.Tags.{AreTags}
use Rattle.nk_store.specs.Diagram.{Diagram, IsReduced, IsFreeOf, leaf_at}
use Rattle.nk_table.specs.declared.Bucket.{Bucket}
use Rattle.nk_table.specs.declared.Table.{Table}
use Rattle.nk_table.specs.declared.Tables.{Tables}
use Rattle.nk_group.specs.Groups.{groups_of, rows_after}
use Rattle.nk_group.specs.Classed.{class_of}
use Rattle.nk_merge.specs.Classes.{AreClasses}
use Rattle.nk_compile.specs.PrintedTable.{IsNumberedList}
use Rattle.nk_compile.specs.MetUnder.{IsMetUnder}
use Rattle.nk_compile.specs.WholeTable.{TagTree, rows_of_trees, HasRowsAt}

-- ---- alike tag sets and their classes

-- what is left after the second dups of these literals, of one of them, gives the history
abbrev pub GivesAfter : Policy → List ℕ → Packet → List Packet → Packet → Type 0
GivesAfter p labels x w last = (l : ℕ) × Contains labels l × Gives (after p (l + 1)) x w last

-- the states of two tag sets give the same histories from every packet in range
abbrev pub AreSetsAlike : FieldTable → Policy → List ℕ → List ℕ → Type 0
AreSetsAlike fields p a b =
    (x : Packet) (w : List Packet) (last : Packet) → IsPacket fields x → GivesAfter p a x w last ↔ GivesAfter p b x w last

-- so it is with the tag sets at two places
abbrev pub ArePlacesAlike : FieldTable → Policy → List (List ℕ) → ℕ → ℕ → Type 0
ArePlacesAlike fields p tags i j = AreSetsAlike fields p (slice_index_or tags i []) (slice_index_or tags j [])

-- the classes of the tag sets, in the order of these: two have one class exactly where they are alike, and classes are
-- numbered from 1 by their first tag sets
abbrev pub AreTagClasses : FieldTable → Policy → List (List ℕ) → List ℕ → Type 0
AreTagClasses fields p tags classes = AreClasses (ArePlacesAlike fields p tags) (length tags) classes

-- ---- which member acts for a class

-- the tag set at this place is of the class
abbrev pub IsOfClass : List ℕ → ℕ → ℕ → Type 0
IsOfClass classes c i = slice_get classes i ≡ Some c

-- it is, and the packet is met under it
abbrev pub IsMetMember : Policy → (Packet → Type 0) → List (List ℕ) → List ℕ → ℕ → Packet → ℕ → Type 0
IsMetMember p Start tags classes c x i =
    IsOfClass classes c i × (labels : List ℕ) × (slice_get tags i ≡ Some labels) × IsMetUnder p Start labels x

-- the first place with the property
abbrev pub IsFirstPlace : (ℕ → Type 0) → ℕ → Type 0
IsFirstPlace P i = P i × ((j : ℕ) → j < i → P j → ⊥)

-- the first member under which the packet is met, else the first member
abbrev pub IsActingMember : Policy → (Packet → Type 0) → List (List ℕ) → List ℕ → ℕ → Packet → ℕ → Type 0
IsActingMember p Start tags classes c x i =
    IsFirstPlace (IsMetMember p Start tags classes c x) i
    ⊎ (((j : ℕ) → IsMetMember p Start tags classes c x j → ⊥) × IsFirstPlace (IsOfClass classes c) i)

-- the tag whose states act for a class at a packet, before anything is merged: tag 0 for 0, else that of the acting member
abbrev pub ActsFor : Policy → (Packet → Type 0) → List (List ℕ) → List ℕ → ℕ → Packet → ℕ → Type 0
ActsFor p Start tags classes zero x t = t ≡ 0
ActsFor p Start tags classes (suc c) x zero = ⊥
ActsFor p Start tags classes (suc c) x (suc i) = IsActingMember p Start tags classes (suc c) x i

-- ---- the tables

-- the reduced tree of a class at a switch, over the port and the declared fields but the tag
pub record IsClassTree (fields : FieldTable) (tag : ℕ) (Start : Packet → Type 0) (p : Policy) (tags : List (List ℕ)) (classes : List ℕ) (c sw : ℕ) (d : Diagram (List Bucket)) : Type 0 where
  pub reduced : IsReduced d fields.maxima 1
  pub tag_free : IsFreeOf tag d
  pub leaves : (pk : List ℕ) → IsPacket fields pk → slice_index pk 0 ≡ sw → (t : ℕ) × ActsFor p Start tags classes c (erased fields pk) t × IsNumberedList (class_of classes) (length fields.maxima) tag p tags t pk (leaf_at d [] pk)

-- class 0 has rows at each switch, another class where a link of a member ends
abbrev pub HasClassRowsAt : Policy → List (List ℕ) → List ℕ → ℕ → ℕ → Type 0
HasClassRowsAt p tags classes sw zero = Unit {0}
HasClassRowsAt p tags classes sw (suc c) = (i : ℕ) × IsOfClass classes (suc c) i × HasRowsAt p tags sw (suc i)

-- the table of a switch: the rows of its classes' trees, ascending, and the groups of these rows
pub record IsClassTable (fields : FieldTable) (tag : ℕ) (Start : Packet → Type 0) (p : Policy) (tags : List (List ℕ)) (classes : List ℕ) (table : Table) : Type 0 where
  pub trees : List TagTree
  pub ascending : IsStrictlyIncreasing (map (λ e. e.tag) trees)
  pub exactly : (c : ℕ) → Contains (map (λ e. e.tag) trees) c ↔ HasClassRowsAt p tags classes table.switch c
  pub each : All (λ e. IsClassTree fields tag Start p tags classes e.tag table.switch e.tree) trees
  pub groups : table.groups ≡ groups_of (rows_of_trees fields.maxima tag trees)
  pub rows : table.rows ≡ rows_after [] (rows_of_trees fields.maxima tag trees)

-- the tables of a policy whose packets start where Start holds, by its tag sets in order and their classes
pub record IsMergedTable (fields : FieldTable) (topo : Topology) (Start : Packet → Type 0) (p : Policy) (tags : List (List ℕ)) (classes : List ℕ) (t : Tables) : Type 0 where
  pub tag : ℕ
  pub tag_declared : fields.tag ≡ Some tag
  pub in_order : AreTags p Start tags
  pub are_classes : AreTagClasses fields p tags classes
  pub same_fields : t.fields ≡ fields
  pub same_topology : t.topo ≡ topo
  pub switches : map (λ s. s.switch) t.tables ≡ map (λ s. s.switch) topo.switches
  pub each : All (IsClassTable fields tag Start p tags classes) t.tables
