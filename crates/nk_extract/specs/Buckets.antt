-- The bucket list that is printed for a diagram at a packet: a bucket for each result, in their order.
use Rattle.std.specs.Prelude.{◌≡◌, ℕ, ◌⊎◌, ◌↔◌, ◌==◌, not, ◌&&◌, if◌then◌else◌, nat_lt, List, [], ◌∷◌, ◌++◌, map, filter, slice_index, Contains, AllPairs}
use Rattle.std.specs.List.{flat_map}
use Rattle.nk_field.specs.Order.{IsListedBefore}
pub use Rattle.nk_store.specs.Sends.{Sends}
use Rattle.nk_store.specs.Intervals.{counted}
use Rattle.nk_table.specs.declared.Bucket.{Bucket}
use Rattle.nk_table.specs.declared.Exit.{Exit}
use Rattle.nk_table.specs.declared.Exit.TheVariants.{Back, Port}
use Rattle.nk_extract.specs.RuleTree.{put}

-- the declared fields but the tag in which two packets differ, with the later value
abbrev pub changes : ℕ → ℕ → List ℕ → List ℕ → List (ℕ × ℕ)
changes width tag pk x =
    map (λ f. (f, slice_index x f))
    (filter (λ f. nat_lt 1 f && not (f == tag) && not (slice_index pk f == slice_index x f)) (counted 0 width))

-- the bucket of a result: it sets what differs, then the tag, and leaves by the new port where that differs
abbrev pub bucket_of : ℕ → ℕ → List ℕ → List ℕ → ℕ → Bucket
bucket_of width tag pk x t = record {
  sets = put (tag, t) (changes width tag pk x);
  exit = if slice_index pk 1 == slice_index x 1 then Back else Port (slice_index x 1);
}

-- what a bucket is ordered by: the port, then the other assignments, then the tag
abbrev pub exit_key : Exit → List ℕ
exit_key Back = []
exit_key (Port n) = 1 ∷ n ∷ []

abbrev pub bucket_key : ℕ → Bucket → List ℕ
bucket_key tag b = exit_key b.exit ++ flat_map (λ a. if a.0 == tag then [] else a.0 ∷ a.1 ∷ []) b.sets

abbrev pub tag_of : ℕ → Bucket → List ℕ
tag_of tag b = flat_map (λ a. if a.0 == tag then a.1 ∷ [] else []) b.sets

abbrev pub IsBucketBefore : ℕ → Bucket → Bucket → Type 0
IsBucketBefore tag a b =
    IsListedBefore (bucket_key tag a) (bucket_key tag b)
    ⊎ ((bucket_key tag a ≡ bucket_key tag b) × IsListedBefore (tag_of tag a) (tag_of tag b))

-- the bucket list of a packet's results, where S x t says that the packet goes on as x with the tag t
pub record AreBuckets (width tag : ℕ) (S : List ℕ → ℕ → Type 0) (pk : List ℕ) (buckets : List Bucket) : Type 0 where
  pub exactly : (b : Bucket) → Contains buckets b ↔ ((x : List ℕ) × (t : ℕ) × S x t × (b ≡ bucket_of width tag pk x t))
  pub in_order : AllPairs (IsBucketBefore tag) buckets
