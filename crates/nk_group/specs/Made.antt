-- The tables that are made of an automaton's states: at each switch the rows of its tags.
use Rattle.std.specs.Prelude.{◌≡◌, ℕ, ◌<◌, ◌≤◌, List, [], Option, length, map, take, slice_index, All}
use Rattle.std.specs.List.{flat_map}
use Rattle.nk_store.specs.StoreState.{StoreState, IsId, IsStorePacket}
use Rattle.nk_store.specs.Diagram.{Diagram, IsReduced, IsFreeOf, leaf_at}
use Rattle.nk_table.specs.declared.Bucket.{Bucket}
use Rattle.nk_table.specs.declared.Plain.{Plain}
use Rattle.nk_table.specs.declared.Table.{Table}
use Rattle.nk_extract.specs.Buckets.{AreBuckets}
use Rattle.nk_extract.specs.RowsOf.{IsPrintable}
use Rattle.nk_extract.specs.RuleTree.{rows_for}
use Rattle.nk_group.specs.Groups.{groups_of, rows_after}
use Rattle.nk_group.specs.declared.switch_tags.SwitchTags.{SwitchTags}
use Rattle.nk_group.specs.declared.switch_tags.TagState.{TagState}
use Rattle.nk_group.specs.declared.switch_tags.SwitchStates.{SwitchStates}
use Rattle.nk_group.specs.Matched.{Matched}
use Rattle.nk_group.specs.States.{IsStateAtSwitch, StayAt}
use Rattle.nk_group.specs.Tagged.{members_of, LeadsWith, SendsBy}

-- a tag beside its tree
pub record TagTree : Type 0 where
  pub tag : ℕ
  pub tree : Diagram (List Bucket)

-- the rows of these trees in turn, each with its whole bucket list, over fields with their largest values
abbrev pub rows_of_trees : List ℕ → ℕ → List TagTree → List Plain
rows_of_trees maxima tag trees = flat_map (λ e. rows_for maxima tag e.tag e.tree) trees

-- the tag's states are there and stay at the switch
pub record IsTagAt (st : StoreState) (ss : List (List ℕ)) (states tags : List ℕ) (tag sw t : ℕ) : Type 0 where
  pub within : t ≤ length tags
  pub places : All (λ l. l < length states) (members_of ss tags t)
  pub stay : StayAt st tag sw states (members_of ss tags t)

-- so it is with each tag of the switch
abbrev pub AreSwitchTags : StoreState → List (List ℕ) → List ℕ → List ℕ → ℕ → SwitchTags → Type 0
AreSwitchTags st ss states tags tag s = All (IsTagAt st ss states tags tag s.switch) s.tags

-- the places of a tag's states are places among so many states
pub record HasLabelsBelow (ss : List (List ℕ)) (count : ℕ) (tags : List ℕ) (t : ℕ) : Type 0 where
  pub within : t ≤ length tags
  pub places : All (λ l. l < count) (members_of ss tags t)

-- so are those of a switch's tags
abbrev pub TagsHaveLabelsBelow : List (List ℕ) → ℕ → List ℕ → SwitchTags → Type 0
TagsHaveLabelsBelow ss count tags s = All (HasLabelsBelow ss count tags) s.tags

-- the reduced tree of the bucket lists of where a tag's states lead at the packets of a switch
pub record IsTagTree (st : StoreState) (ss : List (List ℕ)) (states tags : List ℕ) (tag sw : ℕ) (e : TagTree) : Type 0 where
  pub reduced : IsReduced e.tree (take st.width st.maxes) 1
  pub tag_free : IsFreeOf tag e.tree
  pub leaves : (pk : List ℕ) → IsStorePacket st pk → slice_index pk 0 ≡ sw →
      AreBuckets st.width tag (λ y t. LeadsWith st ss states tags (members_of ss tags e.tag) pk y t) pk (leaf_at e.tree [] pk)

-- the table of a switch: the rows of its tags' trees in turn, and the groups of these rows
pub record IsTableAt (st : StoreState) (ss : List (List ℕ)) (diagrams tags : List ℕ) (tag : ℕ) (s : SwitchTags) (table : Table) : Type 0 where
  pub switch : table.switch ≡ s.switch
  pub trees : List TagTree
  pub tags_are : map (λ e. e.tag) trees ≡ s.tags
  pub each : All (IsTagTree st ss diagrams tags tag s.switch) trees
  pub groups : table.groups ≡ groups_of (rows_of_trees (take st.width st.maxes) tag trees)
  pub rows : table.rows ≡ rows_after [] (rows_of_trees (take st.width st.maxes) tag trees)

-- the diagram of a tag's states at a switch
pub record IsTagState (st : StoreState) (ss : List (List ℕ)) (states tags : List ℕ) (sw : ℕ) (e : TagState) : Type 0 where
  pub within : e.tag ≤ length tags
  pub places : All (λ l. l < length states) (members_of ss tags e.tag)
  pub state : IsStateAtSwitch st ss states (members_of ss tags e.tag) sw e.diagram

-- the diagrams of a switch's tags
pub record AreStatesAt (st : StoreState) (ss : List (List ℕ)) (states tags : List ℕ) (s : SwitchTags) (tag_states : SwitchStates) : Type 0 where
  pub switch : tag_states.switch ≡ s.switch
  pub tags_are : map (λ (e : TagState). e.tag) tag_states.tag_states ≡ s.tags
  pub each : All (IsTagState st ss states tags s.switch) tag_states.tag_states

-- a diagram that can be printed at the switch
pub record IsPrintableState (st : StoreState) (tag sw : ℕ) (e : TagState) : Type 0 where
  pub id : IsId st e.diagram
  pub printable : IsPrintable st tag sw e.diagram

-- so are those of a switch's tags
abbrev pub ArePrintableStates : StoreState → ℕ → SwitchStates → Type 0
ArePrintableStates st tag s = All (IsPrintableState st tag s.switch) s.tag_states

-- the reduced tree of where a diagram leads at the packets of a switch, with the tags of a table
pub record IsTreeBy (st : StoreState) (table : List (Option ℕ)) (tag sw : ℕ) (s : TagState) (e : TagTree) : Type 0 where
  pub tag_is : e.tag ≡ s.tag
  pub reduced : IsReduced e.tree (take st.width st.maxes) 1
  pub tag_free : IsFreeOf tag e.tree
  pub leaves : (pk : List ℕ) → IsStorePacket st pk → slice_index pk 0 ≡ sw →
      AreBuckets st.width tag (λ y t. SendsBy st table s.diagram pk y t) pk (leaf_at e.tree [] pk)

-- the rows of the trees of a switch's diagrams
abbrev pub AreRowsBy : StoreState → List (Option ℕ) → ℕ → ℕ → List TagState → List Plain → Type 0
AreRowsBy st table tag sw tag_states rows =
    (trees : List TagTree) × Matched (IsTreeBy st table tag sw) tag_states trees × (rows ≡ rows_of_trees (take st.width st.maxes) tag trees)

-- the table that is made of a switch's diagrams
pub record IsTableBy (st : StoreState) (table : List (Option ℕ)) (tag : ℕ) (s : SwitchStates) (t : Table) : Type 0 where
  pub switch : t.switch ≡ s.switch
  pub trees : List TagTree
  pub each : Matched (IsTreeBy st table tag s.switch) s.tag_states trees
  pub groups : t.groups ≡ groups_of (rows_of_trees (take st.width st.maxes) tag trees)
  pub rows : t.rows ≡ rows_after [] (rows_of_trees (take st.width st.maxes) tag trees)
