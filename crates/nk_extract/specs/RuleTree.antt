-- The rows that are printed for one switch and one tag, by recursion on the reduced tree of its bucket lists: at a node
-- a row takes one block of an interval that is not of the else-child, and matches it, or the else-child, and matches
-- nothing.
use Rattle.std.specs.Prelude.{ℕ, ◌+◌, ◌^◌, ◌==◌, ◌&&◌, ◌||◌, Bool, true, false, not, nat_lt, if◌then◌else◌, List, [], ◌∷◌, ◌++◌, length, map, filter, count_by, slice_index}
use Rattle.std.specs.List.{flat_map}
use Rattle.nk_store.specs.Diagram.{Diagram, Branches, leaf, case, no_branch, branch}
use Rattle.nk_store.specs.Intervals.{Interval, same_tree, with_most, counted}
use Rattle.nk_prefix.specs.Prefix.{digits_of}
use Rattle.nk_prefix.specs.Blocks.{blocks_of}
use Rattle.nk_table.specs.declared.Bucket.{Bucket}
use Rattle.nk_table.specs.declared.Plain.{Plain}
use Rattle.nk_table.specs.Buckets.{same_buckets}

-- a way through the tree: its matches, each a field, a block's first value and how many digits the block shares; and
-- whether a drop there is printed
pub record Path : Type 0 where
  pub matches : List (ℕ × ℕ × ℕ)
  pub buckets : List Bucket
  pub shown : Bool

abbrev pub PathInterval : Type 0
PathInterval = Interval (List Bucket) (List Path)

abbrev pub is_drop_list : List Bucket → Bool
is_drop_list [] = true
is_drop_list (b ∷ bs) = false

abbrev pub is_drop_leaf : Diagram (List Bucket) → Bool
is_drop_leaf (leaf bs) = is_drop_list bs
is_drop_leaf (case f bs) = false

-- with one more block matched, at a node whose else-child drops or not
abbrev pub with_match : ℕ → Bool → ℕ × ℕ → Path → Path
with_match f else_drops b p = record {
  matches = (f, b.0, b.1) ∷ p.matches;
  buckets = p.buckets;
  shown = not else_drops || p.shown;
}

-- the ways of an interval's blocks, the field's largest value being given
abbrev pub block_paths : (max f : ℕ) → PathInterval → PathInterval → List Path
block_paths max f other i =
    if same_tree other.child same_buckets i.child then []
    else flat_map (λ b. map (with_match f (is_drop_leaf other.child) b) i.made) (blocks_of i.first i.last max)

abbrev pub paths_at : (max f : ℕ) → List PathInterval → List Path
paths_at max f [] = []
paths_at max f (i ∷ is) =
    let other = with_most same_buckets (i ∷ is) i is in
    flat_map (block_paths max f other) (i ∷ is) ++ other.made

-- the ways through a reduced tree over fields with their largest values, blocks ascending and the else-child last
abbrev mutual
  pub paths_of : List ℕ → Diagram (List Bucket) → List Path
  paths_of maxima (leaf bs) = record { matches = []; buckets = bs; shown = false } ∷ []
  paths_of maxima (case f bs) = paths_at (slice_index maxima f) f (path_intervals maxima bs 0)

  pub path_intervals : List ℕ → Branches (List Bucket) → ℕ → List PathInterval
  path_intervals maxima no_branch from = []
  path_intervals maxima (branch end d bs) from =
      record { first = from; last = end; child = d; made = paths_of maxima d } ∷ path_intervals maxima bs (end + 1)

-- the bit of a field: one for each matchable field after it
abbrev pub bit_of : ℕ → ℕ → ℕ → ℕ
bit_of width tag f = 2 ^ count_by (λ g. nat_lt f g && not (g == tag)) (counted 0 width)

abbrev pub priority_of : ℕ → ℕ → List (ℕ × ℕ × ℕ) → ℕ
priority_of width tag [] = 0
priority_of width tag (m ∷ ms) = bit_of width tag m.0 + priority_of width tag ms

-- an assignment put in by field
abbrev pub put : ℕ × ℕ → List (ℕ × ℕ) → List (ℕ × ℕ)
put a [] = a ∷ []
put a (b ∷ bs) = if nat_lt a.0 b.0 then a ∷ b ∷ bs else b ∷ put a bs

-- a match put in by field
abbrev pub put_match : ℕ × ℕ × ℕ → List (ℕ × ℕ × ℕ) → List (ℕ × ℕ × ℕ)
put_match m [] = m ∷ []
put_match m (n ∷ ns) = if nat_lt m.0 n.0 then m ∷ n ∷ ns else n ∷ put_match m ns

-- the exact value of a field
abbrev pub exactly : List ℕ → ℕ → ℕ → ℕ × ℕ × ℕ
exactly maxima f v = (f, v, digits_of (slice_index maxima f))

-- the row of a way, which matches the tag exactly
abbrev pub plain_row : List ℕ → ℕ → ℕ → Path → Plain
plain_row maxima tag t p = record {
  priority = priority_of (length maxima) tag p.matches;
  matches = put_match (exactly maxima tag t) p.matches;
  buckets = p.buckets;
}

abbrev pub rows_for : List ℕ → ℕ → ℕ → Diagram (List Bucket) → List Plain
rows_for maxima tag t d =
    map (plain_row maxima tag t) (filter (λ p. not (is_drop_list p.buckets) || p.shown) (paths_of maxima d))
