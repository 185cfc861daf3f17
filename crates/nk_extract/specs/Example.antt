-- Rows worked out by hand, over the fields sw, pt and dst and the tag vlan: of a state that sends each packet to port 2, and
-- back what came in there; of states that go by dst; and of intervals of dst, as blocks.
use Rattle.std.specs.Prelude.{◌≡◌, ℕ, List, [], ◌∷◌}
use Rattle.nk_store.specs.Diagram.{Diagram, leaf, case, no_branch, branch}
use Rattle.nk_table.specs.declared.Bucket.{Bucket}
use Rattle.nk_table.specs.declared.Plain.{Plain}
use Rattle.nk_table.specs.declared.Exit.{Exit}
use Rattle.nk_table.specs.declared.Exit.TheVariants.{Back, Port}
use Rattle.nk_extract.specs.RuleTree.{rows_for}

abbrev pub untagging : Exit → Bucket
untagging exit = record { sets = (3, 0) ∷ []; exit = exit }

abbrev pub to_two : Diagram (List Bucket)
to_two =
    case 1 (branch 1 (leaf (untagging (Port 2) ∷ [])) (branch 2 (leaf (untagging Back ∷ [])) (branch 65535 (leaf (untagging (Port 2) ∷ [])) no_branch)))

-- where dst is not 2, the packet goes back
abbrev pub not_two : Diagram (List Bucket)
not_two =
    case 2 (branch 1 (leaf (untagging Back ∷ [])) (branch 2 (leaf []) (branch 3 (leaf (untagging Back ∷ [])) no_branch)))

-- where dst is 2 alone
abbrev pub two_alone : Diagram (List Bucket)
two_alone = case 2 (branch 1 (leaf []) (branch 2 (leaf (untagging Back ∷ [])) (branch 3 (leaf []) no_branch)))

-- dst is at most 3 and vlan at most 7: two digits and three
abbrev pub small_maxima : List ℕ
small_maxima = 65535 ∷ 65535 ∷ 3 ∷ 7 ∷ []

-- where dst is from 1 to 5, of 0 to 7, the packet goes back, and so it does at most values
abbrev pub one_to_five : Diagram (List Bucket)
one_to_five =
    case 2 (branch 0 (leaf []) (branch 5 (leaf (untagging Back ∷ [])) (branch 7 (leaf []) no_branch)))

-- where dst is from 2 to 5, of 0 to 9, it does; and where dst is 8 or 9, the largest value
abbrev pub two_to_five : Diagram (List Bucket)
two_to_five =
    case 2 (branch 1 (leaf []) (branch 5 (leaf (untagging Back ∷ [])) (branch 9 (leaf []) no_branch)))

abbrev pub from_eight : Diagram (List Bucket)
from_eight = case 2 (branch 7 (leaf []) (branch 9 (leaf (untagging Back ∷ [])) no_branch))

-- with dst up to some value, and vlan 0 or 1
abbrev pub up_to : ℕ → List ℕ
up_to dst = 65535 ∷ 65535 ∷ dst ∷ 1 ∷ []

abbrev pub plain : ℕ → List (ℕ × ℕ × ℕ) → List Bucket → Plain
plain priority matches buckets = record { priority = priority; matches = matches; buckets = buckets }

-- single values
abbrev pub WorkedRules : Type 0
WorkedRules =
    (rows_for small_maxima 3 1 to_two ≡ plain 2 ((1, 2, 16) ∷ (3, 1, 3) ∷ []) (untagging Back ∷ []) ∷ plain 0 ((3, 1, 3) ∷ []) (untagging (Port 2) ∷ []) ∷ [])
    × (rows_for small_maxima 3 0 not_two ≡ plain 1 ((2, 2, 2) ∷ (3, 0, 3) ∷ []) [] ∷ plain 0 ((3, 0, 3) ∷ []) (untagging Back ∷ []) ∷ [])
    × (rows_for small_maxima 3 0 two_alone ≡ plain 1 ((2, 2, 2) ∷ (3, 0, 3) ∷ []) (untagging Back ∷ []) ∷ [])

-- Intervals: dropped are 0 and 6 to 7, the latter as one block; 2 to 5 are two blocks of two values each; and 8 to 9
-- count as 8 to 15.
abbrev pub WorkedIntervals : Type 0
WorkedIntervals =
    (rows_for (up_to 7) 3 0 one_to_five ≡ plain 1 ((2, 0, 3) ∷ (3, 0, 1) ∷ []) [] ∷ plain 1 ((2, 6, 2) ∷ (3, 0, 1) ∷ []) [] ∷ plain 0 ((3, 0, 1) ∷ []) (untagging Back ∷ []) ∷ [])
    × (rows_for (up_to 9) 3 0 two_to_five ≡ plain 1 ((2, 2, 3) ∷ (3, 0, 1) ∷ []) (untagging Back ∷ []) ∷ plain 1 ((2, 4, 3) ∷ (3, 0, 1) ∷ []) (untagging Back ∷ []) ∷ [])
    × (rows_for (up_to 9) 3 0 from_eight ≡ plain 1 ((2, 8, 1) ∷ (3, 0, 1) ∷ []) (untagging Back ∷ []) ∷ [])
