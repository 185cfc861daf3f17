-- The groups of rows: each list of several buckets once, numbered from 1 by first use.
use Rattle.std.specs.Prelude.{◌≡◌, ◌≢◌, ℕ, ◌+◌, if◌then◌else◌, List, [], ◌∷◌, ◌++◌, filter, AllPairs}
use Rattle.std.specs.List.{list_any, position_or_len}
use Rattle.nk_table.specs.declared.Bucket.{Bucket}
use Rattle.nk_table.specs.declared.Group.{Group}
use Rattle.nk_table.specs.declared.Plain.{Plain}
use Rattle.nk_table.specs.declared.Row.{Row}
use Rattle.nk_table.specs.declared.Target.{Target}
use Rattle.nk_table.specs.declared.Target.TheVariants as target
use Rattle.nk_table.specs.Buckets.{same_buckets}
use Rattle.nk_table.specs.Rules.{agrees, highest, buckets_for, buckets_of_row}
use Rattle.nk_extract.specs.Chosen.{Choose}

-- a list with a bucket more at its end, unless it is there
abbrev pub with_list : List (List Bucket) → List Bucket → List (List Bucket)
with_list ls bs = if list_any (same_buckets bs) ls then ls else ls ++ bs ∷ []

-- the lists of the groups after one more row
abbrev pub taken : List (List Bucket) → List Bucket → List (List Bucket)
taken ls [] = ls
taken ls (b ∷ []) = ls
taken ls (b ∷ c ∷ bs) = with_list ls (b ∷ c ∷ bs)

-- what a row does: no bucket is drop, one stands in the row, several are the group of this list
abbrev pub target_in_groups : List (List Bucket) → List Bucket → Target
target_in_groups ls [] = target.Discard
target_in_groups ls (b ∷ []) = target.Bucket b
target_in_groups ls (b ∷ c ∷ bs) = target.Group (position_or_len (same_buckets (b ∷ c ∷ bs)) ls + 1)

-- the row whose buckets were taken last
abbrev pub row_among : List (List Bucket) → Plain → Row
row_among ls r = record { priority = r.priority; matches = r.matches; target = target_in_groups ls r.buckets }

-- the rows, where the lists ls have numbers already
abbrev pub rows_after : List (List Bucket) → List Plain → List Row
rows_after ls [] = []
rows_after ls (r ∷ rs) = row_among (taken ls r.buckets) r ∷ rows_after (taken ls r.buckets) rs

-- the lists of all groups
abbrev pub lists_after : List (List Bucket) → List Plain → List (List Bucket)
lists_after ls [] = ls
lists_after ls (r ∷ rs) = lists_after (taken ls r.buckets) rs

-- the groups of these lists, numbered from one on
abbrev pub numbered : ℕ → List (List Bucket) → List Group
numbered n [] = []
numbered n (bs ∷ ls) = record { number = n; buckets = bs } ∷ numbered (n + 1) ls

abbrev pub groups_of : List Plain → List Group
groups_of rs = numbered 1 (lists_after [] rs)

-- each row keeps its priority and matches, and its target names its buckets
abbrev pub AreKept : List Group → List Plain → List Row → Type 0
AreKept gs [] [] = Unit {0}
AreKept gs [] (r ∷ rs) = ⊥
AreKept gs (p ∷ ps) [] = ⊥
AreKept gs (p ∷ ps) (r ∷ rs) =
    (r.priority ≡ p.priority) × (r.matches ≡ p.matches) × (buckets_for gs r.target ≡ p.buckets) × AreKept gs ps rs

-- the target of each row names the row's buckets
abbrev pub GroupsKeepBuckets : Type 0
GroupsKeepBuckets = (ps : List Plain) → AreKept (groups_of ps) ps (rows_after [] ps)

-- no two groups have one bucket list
abbrev pub GroupsDiffer : Type 0
GroupsDiffer = (ps : List Plain) → AllPairs (λ a b. a.buckets ≢ b.buckets) (groups_of ps)

-- where the plain rows choose buckets at a packet, the rows with their groups choose the same
abbrev pub GroupsKeepTheChoice : Type 0
GroupsKeepTheChoice =
    (maxima : List ℕ) (ps : List Plain) (pk : List ℕ) (buckets : List Bucket) → Choose maxima ps pk buckets
    → buckets_of_row (groups_of ps) (highest [] (filter (agrees maxima pk) (rows_after [] ps))) ≡ buckets
