-- Worked predicates: fields of place 2 and 3, the first from 0 to 3 or from 0 to 9 and the second from 0 to 1.
use Rattle.std.specs.Prelude.{◌≡◌, [], ◌∷◌}
use Rattle.nk_policy.specs.Policy.{test, range, sum_of, seq_of, not_of, no_part, part}
use Rattle.nk_store.specs.Diagram.{leaf, case, no_branch, branch}
use Rattle.nk_apply.specs.Seqs.{no_out}
use Rattle.nk_sets.specs.Predicate.{SetTree, predicate_of}

-- all packets
abbrev pub all : SetTree
all = leaf (no_out ∷ [])

-- no packet
abbrev pub none : SetTree
none = leaf []

-- the first is 1
abbrev pub is_one : SetTree
is_one = case 2 (branch 0 none (branch 1 all (branch 3 none no_branch)))

-- the first is not 1
abbrev pub is_not_one : SetTree
is_not_one = case 2 (branch 0 all (branch 1 none (branch 3 all no_branch)))

-- the second is 0
abbrev pub is_zero : SetTree
is_zero = case 3 (branch 0 all (branch 1 none no_branch))

-- the second is 1
abbrev pub is_second_one : SetTree
is_second_one = case 3 (branch 0 none (branch 1 all no_branch))

-- the first is 1, or it is not and the second is 0
abbrev pub is_one_or_zero : SetTree
is_one_or_zero = case 2 (branch 0 is_zero (branch 1 all (branch 3 is_zero no_branch)))

-- the first is 0 or 1, of the values from 0 to 3
abbrev pub is_low : SetTree
is_low = case 2 (branch 1 all (branch 3 none no_branch))

-- the first is 2 or 3, of the values from 0 to 3
abbrev pub is_high : SetTree
is_high = case 2 (branch 1 none (branch 3 all no_branch))

-- the first is from 1 to 8, of the values from 0 to 9
abbrev pub is_inner : SetTree
is_inner = case 2 (branch 0 none (branch 8 all (branch 9 none no_branch)))

-- the first is from 3 to 9, or it is 2 and the second is 0
abbrev pub is_two_zero_or_more : SetTree
is_two_zero_or_more = case 2 (branch 1 none (branch 2 is_zero (branch 9 all no_branch)))

-- The predicates of these sets: a child with more values, or on a tie that of the least value, comes last, however many
-- intervals it has; and neighbouring values with one child are one range.
pub record WorkedPredicates : Type 0 where
  pub one : predicate_of is_one ≡ test 2 1
  pub not_one : predicate_of is_not_one ≡ not_of (test 2 1)
  pub zero : predicate_of is_zero ≡ not_of (test 3 1)
  pub second_one : predicate_of is_second_one ≡ test 3 1
  pub one_or_zero :
      predicate_of is_one_or_zero ≡ sum_of (part (test 2 1) (part (seq_of (part (not_of (test 2 1)) (part (not_of (test 3 1)) no_part))) no_part))
  pub low : predicate_of is_low ≡ not_of (range 2 2 3)
  pub high : predicate_of is_high ≡ range 2 2 3
  pub inner : predicate_of is_inner ≡ not_of (sum_of (part (test 2 0) (part (test 2 9) no_part)))
  pub two_zero_or_more :
      predicate_of is_two_zero_or_more ≡ sum_of (part (seq_of (part (test 2 2) (part (not_of (test 3 1)) no_part))) (part (not_of (sum_of (part (range 2 0 1) (part (test 2 2) no_part)))) no_part))
