-- The policy that a body stands for: each name in it is written out as the policy that it stands for.
use Rattle.std.specs.Prelude.{List, [], ◌∷◌}
use Rattle.nk_policy.specs.Policy.{Policy, Policies, test, range, assign, sum_of, seq_of, not_of, star_of, dup, link, no_part, part, marked_from}
use Rattle.nk_names.specs.declared.body.Body.{Body, Name', Test, Range, Set, Sum', Seq', Not', Star', Dup, Link, Row_of-Body, end_of-Body, more_of-Body}
use Rattle.nk_names.specs.declared.body.Shared.{Shared}

abbrev mutual
  -- the policy of a body, its own dups not numbered
  pub policy_in : Body → Policy
  policy_in (Name' p b) = marked_from (policy_in b) 1
  policy_in (Test f n) = test f n
  policy_in (Range f low high) = range f low high
  policy_in (Set f n) = assign f n
  policy_in (Sum' shape ps) = sum_of (policies_in_row ps)
  policy_in (Seq' shape ps) = seq_of (policies_in_row ps)
  policy_in (Not' p b) = not_of (policy_in b)
  policy_in (Star' p b) = star_of (policy_in b)
  policy_in Dup = dup 0
  policy_in (Link a m b n) = link a m b n 0

  -- the policies of its parts
  pub policies_in_row : {m : _} → Row_of-Body m → Policies
  policies_in_row end_of-Body = no_part
  policies_in_row (more_of-Body b bs) = part (policy_in b) (policies_in_row bs)

-- the policies of a list of bodies
abbrev pub policies_in : List Body → Policies
policies_in [] = no_part
policies_in (b ∷ bs) = part (policy_in b) (policies_in bs)

-- the policy of a name, its dups numbered from 1
abbrev pub policy_of : Shared → Policy
policy_of s = marked_from (policy_in s.body.value) 1
