-- Tables where tags share numbers, those of their classes: at each switch the rows of each class that comes there, and at each
-- packet one of its tags acts for a class.
use Rattle.std.specs.Prelude.{◌≡◌, ℕ, zero, suc, ◌≤◌, Option, Some, None, List, [], ◌∷◌, if◌then◌else◌, length, take, slice_index, slice_set, All}
use Rattle.nk_store.specs.StoreState.{StoreState, IsId, IsWhole, IsStorePacket, look}
use Rattle.nk_store.specs.Diagram.{IsReduced, IsFreeOf, leaf_at}
use Rattle.nk_apply.specs.PacketSets.{is_in}
use Rattle.nk_table.specs.declared.Table.{Table}
use Rattle.nk_extract.specs.Buckets.{AreBuckets}
use Rattle.nk_group.specs.Groups.{groups_of, rows_after}
use Rattle.nk_group.specs.declared.switch_tags.ActingTag.{ActingTag}
use Rattle.nk_group.specs.declared.switch_tags.ClassHere.{ClassHere}
use Rattle.nk_group.specs.declared.switch_tags.SwitchClasses.{SwitchClasses}
use Rattle.nk_group.specs.declared.switch_tags.SwitchStates.{SwitchStates}
use Rattle.nk_group.specs.declared.switch_tags.TagState.{TagState}
use Rattle.nk_group.specs.Matched.{Matched}
use Rattle.nk_group.specs.States.{IsStateAtSwitch}
use Rattle.nk_group.specs.Tagged.{members_of, LeadsWith}
use Rattle.nk_group.specs.Made.{TagTree, rows_of_trees, IsTagAt, HasLabelsBelow}

-- the number of a tag's class: 0 for tag 0, and for tag t + 1 the one at place t
abbrev pub class_of : List ℕ → ℕ → ℕ
class_of classes zero = 0
class_of classes (suc t) = slice_index classes t

-- of these tags the first one at whose packets the packet is, its tag set to 0; the other one where it is at those of none
abbrev pub acting_tag : StoreState → ℕ → List ActingTag → ℕ → List ℕ → ℕ
acting_tag st tag [] other pk = other
acting_tag st tag (a ∷ more) other pk = if is_in st a.packets (slice_set pk tag 0) then a.tag else acting_tag st tag more other pk

-- from pk the states lead to y with a tag whose class has this number
abbrev pub LeadsTo : StoreState → List (List ℕ) → List ℕ → List ℕ → List ℕ → List ℕ → List ℕ → List ℕ → ℕ → Type 0
LeadsTo st ss states tags classes members pk y c = (t : ℕ) × LeadsWith st ss states tags members pk y t × (c ≡ class_of classes t)

-- the number of a target's tag, if it has one
abbrev pub numbered_target : List ℕ → Option ℕ → Option ℕ
numbered_target classes None = None
numbered_target classes (Some t) = Some (class_of classes t)

-- a target's tag, if it has one, is 0 or one of so many others
abbrev pub IsTagWithin : ℕ → Option ℕ → Type 0
IsTagWithin count None = Unit {0}
IsTagWithin count (Some t) = t ≤ count

-- the tag can be put in the table of a switch, and its packets are a diagram of the store
pub record IsActingAt (st : StoreState) (ss : List (List ℕ)) (states tags : List ℕ) (tag sw : ℕ) (a : ActingTag) : Type 0 where
  pub packets : IsId st a.packets
  pub at : IsTagAt st ss states tags tag sw a.tag

-- so it is with each tag of the class
pub record IsClassAt (st : StoreState) (ss : List (List ℕ)) (states tags : List ℕ) (tag sw : ℕ) (h : ClassHere) : Type 0 where
  pub acting : All (IsActingAt st ss states tags tag sw) h.acting
  pub other : IsTagAt st ss states tags tag sw h.other

-- and with each class of the switch
abbrev pub AreSwitchClasses : StoreState → List (List ℕ) → List ℕ → List ℕ → ℕ → SwitchClasses → Type 0
AreSwitchClasses st ss states tags tag s = All (IsClassAt st ss states tags tag s.switch) s.classes

-- the reduced tree of the bucket lists of where the states of the tag that acts for a class lead, at the packets of a switch
pub record IsClassTreeAt (st : StoreState) (ss : List (List ℕ)) (states tags classes : List ℕ) (tag sw : ℕ) (h : ClassHere) (e : TagTree) : Type 0 where
  pub number_is : e.tag ≡ h.class
  pub reduced : IsReduced e.tree (take st.width st.maxes) 1
  pub tag_free : IsFreeOf tag e.tree
  pub leaves : (pk : List ℕ) → IsStorePacket st pk → slice_index pk 0 ≡ sw →
      AreBuckets st.width tag (λ y c. LeadsTo st ss states tags classes (members_of ss tags (acting_tag st tag h.acting h.other pk)) pk y c) pk (leaf_at e.tree [] pk)

-- the table of a switch: the rows of its classes' trees in turn, and the groups of these rows
pub record IsClassTableAt (st : StoreState) (ss : List (List ℕ)) (states tags classes : List ℕ) (tag : ℕ) (s : SwitchClasses) (table : Table) : Type 0 where
  pub switch : table.switch ≡ s.switch
  pub trees : List TagTree
  pub each : Matched (IsClassTreeAt st ss states tags classes tag s.switch) s.classes trees
  pub groups : table.groups ≡ groups_of (rows_of_trees (take st.width st.maxes) tag trees)
  pub rows : table.rows ≡ rows_after [] (rows_of_trees (take st.width st.maxes) tag trees)

-- ---- what is made on the way

-- the places of a tag's states are places among so many states, and its packets are a diagram of the store
pub record IsActingTag (st : StoreState) (ss : List (List ℕ)) (count : ℕ) (tags : List ℕ) (a : ActingTag) : Type 0 where
  pub packets : IsId st a.packets
  pub has : HasLabelsBelow ss count tags a.tag

-- so it is with each tag of a class
pub record HaveActing (st : StoreState) (ss : List (List ℕ)) (count : ℕ) (tags : List ℕ) (h : ClassHere) : Type 0 where
  pub acting : All (IsActingTag st ss count tags) h.acting
  pub other : HasLabelsBelow ss count tags h.other

-- and with each class of a switch
abbrev pub HaveClasses : StoreState → List (List ℕ) → ℕ → List ℕ → SwitchClasses → Type 0
HaveClasses st ss count tags s = All (HaveActing st ss count tags) s.classes

-- the diagram d does what e does at the tag's packets, and elsewhere what the rest does
pub record IsInFront (st : StoreState) (tag : ℕ) (a : ActingTag) (e rest d : ℕ) : Type 0 where
  pub id : IsId st d
  pub packets : IsId st a.packets
  pub leaf : (pk : List ℕ) → IsWhole pk → look st d pk ≡ (if is_in st a.packets (slice_set pk tag 0) then look st e pk else look st rest pk)

-- the diagram does at each packet of the switch what the states of the tag that acts there do
abbrev pub IsActingState : StoreState → List (List ℕ) → List ℕ → List ℕ → ℕ → ℕ → List ActingTag → ℕ → ℕ → Type 0
IsActingState st ss states tags tag sw [] other d = HasLabelsBelow ss (length states) tags other × IsStateAtSwitch st ss states (members_of ss tags other) sw d
IsActingState st ss states tags tag sw (a ∷ more) other d =
    (e : ℕ) × (rest : ℕ)
    × HasLabelsBelow ss (length states) tags a.tag
    × IsStateAtSwitch st ss states (members_of ss tags a.tag) sw e
    × IsActingState st ss states tags tag sw more other rest
    × IsInFront st tag a e rest d

-- so it is with a class's diagram
pub record IsClassState (st : StoreState) (ss : List (List ℕ)) (states tags : List ℕ) (tag sw : ℕ) (h : ClassHere) (e : TagState) : Type 0 where
  pub number_is : e.tag ≡ h.class
  pub state : IsActingState st ss states tags tag sw h.acting h.other e.diagram

-- and with those of a switch's classes
pub record AreClassStates (st : StoreState) (ss : List (List ℕ)) (states tags : List ℕ) (tag : ℕ) (s : SwitchClasses) (all : SwitchStates) : Type 0 where
  pub switch : all.switch ≡ s.switch
  pub each : Matched (IsClassState st ss states tags tag s.switch) s.classes all.tag_states
