-- The rows of a diagram of the store at one switch: those of the reduced tree of its bucket lists.
use Rattle.std.specs.Prelude.{◌≡◌, ◌≢◌, ℕ, ◌<◌, ◌≤◌, List, [], take, slice_index, slice_set, Contains}
use Rattle.nk_store.specs.StoreState.{StoreState, IsStorePacket, look}
use Rattle.nk_store.specs.Diagram.{Diagram, IsReduced, IsFreeOf, leaf_at}
use Rattle.nk_table.specs.declared.Bucket.{Bucket}
use Rattle.nk_table.specs.declared.Plain.{Plain}
use Rattle.nk_extract.specs.RuleTree.{rows_for}
use Rattle.nk_extract.specs.Buckets.{Sends, AreBuckets}

-- The fields of a store with a tag: the switch and the port first, the tag one of the declared fields, and after them
-- all no value but 0.
pub record IsFrame (st : StoreState) (width tag : ℕ) : Type 0 where
  pub past_port : 2 ≤ tag
  pub declared : tag < width
  pub few : width ≤ 18
  pub switches : slice_index st.maxes 0 ≡ 65535
  pub ports : slice_index st.maxes 1 ≡ 65535
  pub following : (f : ℕ) → width ≤ f → slice_index st.maxes f ≡ 0

-- At each packet of the switch an act assigns what it changes, but neither the switch nor the tag, and the leaf is the
-- same whatever the tag.
pub record IsPrintable (st : StoreState) (tag sw d : ℕ) : Type 0 where
  pub exact :
      (pk : List ℕ) (g : List (ℕ × ℕ)) (t f n : ℕ) → IsStorePacket st pk → slice_index pk 0 ≡ sw
      → Contains (look st d pk) (record { act = g; target = t }) → Contains g (f, n) → slice_index pk f ≢ n
  pub keeps :
      (pk y : List ℕ) (t : ℕ) → IsStorePacket st pk → slice_index pk 0 ≡ sw → Sends st d pk y t
      → (slice_index y 0 ≡ sw) × (slice_index y tag ≡ slice_index pk tag)
  pub free :
      (pk : List ℕ) (n : ℕ) → IsStorePacket st pk → slice_index pk 0 ≡ sw → n ≤ slice_index st.maxes tag
      → look st d (slice_set pk tag n) ≡ look st d pk

-- the rows of the reduced tree whose leaves are the diagram's bucket lists at the packets of the switch
pub record AreRowsOf (st : StoreState) (width tag sw to d : ℕ) (rows : List Plain) : Type 0 where
  pub tree : Diagram (List Bucket)
  pub rows_are : rows ≡ rows_for (take width st.maxes) tag to tree
  pub reduced : IsReduced tree (take width st.maxes) 1
  pub tag_free : IsFreeOf tag tree
  pub leaves :
      (pk : List ℕ) → IsStorePacket st pk → slice_index pk 0 ≡ sw
      → AreBuckets width tag (λ x t. Sends st d pk x t) pk (leaf_at tree [] pk)
