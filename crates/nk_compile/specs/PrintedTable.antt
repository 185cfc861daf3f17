-- The table that is printed for a policy: its tag sets in order, for each switch and tag the reduced tree of the bucket
-- lists that the policy asks for, and the rows and groups of these trees.
use Rattle.std.specs.Prelude.{◌≡◌, ◌≢◌, ℕ, zero, suc, ◌+◌, ◌↔◌, Some, List, [], length, slice_get, slice_index, Contains, AllPairs}
use Rattle.nk_field.specs.Packet.{FieldTable, IsPacket}
use Rattle.nk_policy.specs.Policy.{Policy}
use Rattle.nk_policy.specs.Meaning.{Gives}
use Rattle.nk_policy.specs.Progress.{RecordsAt}
use Rattle.nk_policy.specs.After.{after}
use Rattle.nk_policy.specs.Labels.{HasExactly}
use Rattle.nk_store.specs.Diagram.{Diagram, IsReduced, IsFreeOf, leaf_at}
use Rattle.nk_table.specs.declared.Bucket.{Bucket}
use Rattle.nk_extract.specs.Buckets.{bucket_of, IsBucketBefore}

-- the policies that a tag stands for: the whole policy for 0, else what is left after each second dup
abbrev pub IsOfTag : Policy → List (List ℕ) → ℕ → Policy → Type 0
IsOfTag p tags zero s = s ≡ p
IsOfTag p tags (suc t) s = (labels : List ℕ) × (l : ℕ) × (slice_get tags t ≡ Some labels) × Contains labels l × (s ≡ after p (l + 1))

-- some policy of the tag records x next, at dup l
abbrev pub StateRecords : Policy → List (List ℕ) → ℕ → List ℕ → List ℕ → ℕ → Type 0
StateRecords p tags t pk x l = (s : Policy) × IsOfTag p tags t s × RecordsAt s pk [] x l

-- from pk the tag's policies lead to x, which goes on with the tag t'
abbrev pub IsResult : Policy → List (List ℕ) → ℕ → List ℕ → List ℕ → ℕ → Type 0
IsResult p tags t pk x zero = (s : Policy) × IsOfTag p tags t s × Gives s pk [] x
IsResult p tags t pk x (suc t') =
    (labels : List ℕ) × (slice_get tags t' ≡ Some labels) × (labels ≢ []) × HasExactly (StateRecords p tags t pk x) labels

-- the bucket list of a tag at a packet
pub record IsBucketList (width tag : ℕ) (p : Policy) (tags : List (List ℕ)) (t : ℕ) (pk : List ℕ) (buckets : List Bucket) : Type 0 where
  pub exactly : (b : Bucket) → Contains buckets b ↔ ((x : List ℕ) × (t' : ℕ) × IsResult p tags t pk x t' × (b ≡ bucket_of width tag pk x t'))
  pub in_order : AllPairs (IsBucketBefore tag) buckets

-- the bucket list of a tag at a packet, where a result with a tag gets another number
pub record IsNumberedList (number : ℕ → ℕ) (width tag : ℕ) (p : Policy) (tags : List (List ℕ)) (t : ℕ) (pk : List ℕ) (buckets : List Bucket) : Type 0 where
  pub exactly : (b : Bucket) → Contains buckets b ↔ ((x : List ℕ) × (t' : ℕ) × IsResult p tags t pk x t' × (b ≡ bucket_of width tag pk x (number t')))
  pub in_order : AllPairs (IsBucketBefore tag) buckets

-- the reduced tree of a tag at a switch, over the port and the declared fields but the tag
pub record IsTreeOfTag (fields : FieldTable) (tag : ℕ) (p : Policy) (tags : List (List ℕ)) (t sw : ℕ) (d : Diagram (List Bucket)) : Type 0 where
  pub reduced : IsReduced d fields.maxima 1
  pub tag_free : IsFreeOf tag d
  pub leaves : (pk : List ℕ) → IsPacket fields pk → slice_index pk 0 ≡ sw → IsBucketList (length fields.maxima) tag p tags t pk (leaf_at d [] pk)
