-- What it means that rows give a leaf: of those that match a packet one alone is highest and has the leaf's buckets, or
-- none matches and the leaf is empty; and the laws on the rows of a reduced tree.
use Rattle.std.specs.Prelude.{◌≡◌, ◌≢◌, ℕ, ◌<◌, ◌≤◌, ◌⊎◌, Bool, List, [], ◌∷◌, ◌++◌, length, filter, slice_index, Contains}
use Rattle.std.specs.List.{list_all, AllByRecursion}
use Rattle.nk_store.specs.Diagram.{Diagram, IsReduced, IsFreeOf, leaf_at}
use Rattle.nk_store.specs.Nodes.{InRange}
use Rattle.nk_table.specs.declared.Bucket.{Bucket}
use Rattle.nk_table.specs.declared.Plain.{Plain}
use Rattle.nk_table.specs.Rules.{agrees_at}
use Rattle.nk_extract.specs.RuleTree.{rows_for}

-- no two elements have one value
abbrev pub NoDupBy : {A : Type 0} → (A → ℕ) → List A → Type 0
NoDupBy value [] = Unit {0}
NoDupBy value (x ∷ xs) = AllByRecursion (λ y. value x ≢ value y) xs × NoDupBy value xs

-- x stands once, and the value of every other element is lower
pub record IsTop (A : Type 0) (value : A → ℕ) (xs : List A) (x : A) : Type 0 where
  pub before : List A
  pub after : List A
  pub is : xs ≡ before ++ x ∷ after
  pub lower_before : AllByRecursion (λ y. value y < value x) before
  pub lower_after : AllByRecursion (λ y. value y < value x) after

-- the packet agrees with each match
abbrev pub agrees_with : (maxima pk : List ℕ) → List (ℕ × ℕ × ℕ) → Bool
agrees_with maxima pk ms = list_all (agrees_at maxima pk) ms

abbrev pub rank : Plain → ℕ
rank r = r.priority

-- the rows that match a packet
abbrev pub matching : List ℕ → List Plain → List ℕ → List Plain
matching maxima rows pk = filter (λ r. agrees_with maxima pk r.matches) rows

-- of the rows that match a packet one alone is highest and has these buckets, or none matches and there are no buckets
abbrev pub Choose : List ℕ → List Plain → List ℕ → List Bucket → Type 0
Choose maxima rows pk buckets =
    ((r : Plain) × IsTop Plain rank (matching maxima rows pk) r × (r.buckets ≡ buckets))
    ⊎ ((matching maxima rows pk ≡ []) × (buckets ≡ []))

-- a reduced tree over the port and the declared fields but the tag
pub record IsRowTree (maxima : List ℕ) (tag : ℕ) (d : Diagram (List Bucket)) : Type 0 where
  pub reduced : IsReduced d maxima 1
  pub tag_free : IsFreeOf tag d

-- a packet with the tag t, its other values in range
pub record IsTagged (maxima : List ℕ) (tag t : ℕ) (pk : List ℕ) : Type 0 where
  pub within : (f : ℕ) → f ≢ tag → slice_index pk f ≤ slice_index maxima f
  pub tagged : slice_index pk tag ≡ t

-- the rows of a tree choose its leaf at each packet with their tag
abbrev pub RowsGiveLeaves : Type 0
RowsGiveLeaves =
    (maxima : List ℕ) (tag t : ℕ) (d : Diagram (List Bucket)) → IsRowTree maxima tag d
    → (pk : List ℕ) → IsTagged maxima tag t pk → Choose maxima (rows_for maxima tag t d) pk (leaf_at d [] pk)

-- two rows of one tag that match one packet differ in priority
abbrev pub RowsDiffer : Type 0
RowsDiffer =
    (maxima : List ℕ) (tag t : ℕ) (d : Diagram (List Bucket)) → IsRowTree maxima tag d
    → (pk : List ℕ) → IsTagged maxima tag t pk → NoDupBy rank (matching maxima (rows_for maxima tag t d) pk)

-- each row is the one chosen for some packet in range, at each switch: like base at the switch and the tag
abbrev pub RowsAreChosen : Type 0
RowsAreChosen =
    (maxima : List ℕ) (tag t : ℕ) (d : Diagram (List Bucket)) → IsRowTree maxima tag d → length maxima ≤ 18
    → (base : List ℕ) → InRange maxima base → slice_index base tag ≡ t
    → (r : Plain) → Contains (rows_for maxima tag t d) r
    → (pk : List ℕ)
    × InRange maxima pk × (slice_index pk 0 ≡ slice_index base 0) × (slice_index pk tag ≡ t)
    × IsTop Plain rank (matching maxima (rows_for maxima tag t d) pk) r
