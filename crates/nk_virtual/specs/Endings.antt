-- Where a policy ends, whatever it records.
use Rattle.std.specs.Prelude.{ℕ}
use Rattle.nk_policy.specs.Policy.{Policy, Policies, test, range, assign, sum_of, seq_of, not_of, star_of, dup, link, no_part, part}

-- a link literal that records nothing: a test of the source and an assignment of the target
abbrev pub move_alone : ℕ → ℕ → ℕ → ℕ → Policy
move_alone a m b n = seq_of (part (test 0 a) (part (test 1 m) (part (assign 0 b) (part (assign 1 n) no_part))))

-- The policy with its dups left out. A complement is of a predicate, which has none, and stays.
abbrev mutual
  pub without_records : Policy → Policy
  without_records (test f n) = test f n
  without_records (range f low high) = range f low high
  without_records (assign f n) = assign f n
  without_records (sum_of ps) = sum_of (all_without_records ps)
  without_records (seq_of ps) = seq_of (all_without_records ps)
  without_records (not_of p) = not_of p
  without_records (star_of p) = star_of (without_records p)
  without_records (dup l) = seq_of no_part
  without_records (link a m b n l) = move_alone a m b n

  -- the parts, each one so
  pub all_without_records : Policies → Policies
  all_without_records no_part = no_part
  all_without_records (part p ps) = part (without_records p) (all_without_records ps)
