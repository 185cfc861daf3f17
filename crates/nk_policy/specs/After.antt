-- What is left of a policy after one of its dups (Foster et al., POPL 2015: the derivative at an occurrence of dup).
use Rattle.std.specs.Prelude.{ℕ, ◌+◌, ◌==◌, ◌||◌, Bool, false, if◌then◌else◌}
use Rattle.nk_policy.specs.Policy.{Policy, Policies, test, range, assign, sum_of, seq_of, not_of, star_of, dup, link, no_part, part}

-- the policy that keeps each packet
abbrev pub id_policy : Policy
id_policy = seq_of no_part

-- the policy that drops each packet
abbrev pub drop_policy : Policy
drop_policy = sum_of no_part

-- whether the policy holds the dup with this number
abbrev mutual
  pub has_dup : Policy → ℕ → Bool
  has_dup (test f n) l = false
  has_dup (range f lo hi) l = false
  has_dup (assign f n) l = false
  has_dup (sum_of ps) l = some_has_dup ps l
  has_dup (seq_of ps) l = some_has_dup ps l
  has_dup (not_of p) l = has_dup p l
  has_dup (star_of p) l = has_dup p l
  has_dup (dup k) l = l == k
  has_dup (link a m b n k) l = (l == k) || (l == (k + 1))

  -- whether one of the parts does
  pub some_has_dup : Policies → ℕ → Bool
  some_has_dup no_part l = false
  some_has_dup (part p ps) l = has_dup p l || some_has_dup ps l

-- a dup's own rest
abbrev pub after_dup : ℕ → ℕ → Policy
after_dup k l = if l == k then id_policy else drop_policy

-- what is left of a link: what is left of the sequence of its six parts
abbrev pub after_link : ℕ → ℕ → ℕ → ℕ → Policy
after_link b n k l =
    if l == k then
    seq_of (part (after_dup k l) (part (assign 0 b) (part (assign 1 n) (part (dup (k + 1)) no_part))))
    else
    (if l == (k + 1) then seq_of (part (after_dup (k + 1) l) no_part) else drop_policy)

-- what is left of the policy after its dup with this number, and the dropping policy where it has none
abbrev mutual
  pub after : Policy → ℕ → Policy
  after (test f n) l = drop_policy
  after (range f lo hi) l = drop_policy
  after (assign f n) l = drop_policy
  after (sum_of ps) l = after_some ps l
  after (seq_of ps) l = after_all ps l
  after (not_of p) l = drop_policy
  after (star_of p) l = seq_of (part (after p l) (part (star_of p) no_part))
  after (dup k) l = after_dup k l
  after (link a m b n k) l = after_link b n k l

  -- what is left of a sum: what is left of the part that has the dup
  pub after_some : Policies → ℕ → Policy
  after_some no_part l = drop_policy
  after_some (part p ps) l = if has_dup p l then after p l else after_some ps l

  -- what is left of a sequence: what is left of the part that has the dup, then the parts after it
  pub after_all : Policies → ℕ → Policy
  after_all no_part l = drop_policy
  after_all (part p ps) l = if has_dup p l then seq_of (part (after p l) ps) else after_all ps l
