-- The plain tree of a policy that the program holds.
use Rattle.std.specs.Prelude.{List, [], ◌∷◌}
use Rattle.nk_policy.specs.Policy.{Policy, Policies, test, range, assign, sum_of, seq_of, not_of, star_of, dup, link, no_part, part}
use Rattle.nk_policy.specs.declared.policy.Pol.{Pol, Test, Range, Set, Sum', Seq', Not', Star', Dup, Link, Row_of-Pol, end_of-Pol, more_of-Pol}

abbrev mutual
  -- the tree of a policy
  pub tree_of : Pol → Policy
  tree_of (Test f n) = test f n
  tree_of (Range f lo hi) = range f lo hi
  tree_of (Set f n) = assign f n
  tree_of (Sum' shape ps) = sum_of (trees_of_row ps)
  tree_of (Seq' shape ps) = seq_of (trees_of_row ps)
  tree_of (Not' b p) = not_of (tree_of p)
  tree_of (Star' b p) = star_of (tree_of p)
  tree_of (Dup l) = dup l
  tree_of (Link a m b n l) = link a m b n l

  -- the trees of its parts
  pub trees_of_row : {m : _} → Row_of-Pol m → Policies
  trees_of_row end_of-Pol = no_part
  trees_of_row (more_of-Pol p ps) = part (tree_of p) (trees_of_row ps)

-- the trees of a list of policies
abbrev pub trees_of : List Pol → Policies
trees_of [] = no_part
trees_of (p ∷ ps) = part (tree_of p) (trees_of ps)
