-- Policies as plain trees (the syntax of NetKAT: Anderson et al., POPL 2014; sums and sequences of any number of parts), and
-- what is read off a tree: depth, size, dups, whether it is a predicate, its numbering, and link literals written out.
use Rattle.std.specs.Prelude.{ℕ, ◌+◌, ◌<◌, max, Bool, true, false, ◌&&◌, List, [], ◌∷◌, ◌++◌}

mutual
  -- a policy
  pub data Policy : Type 0 where
    test : (field value : ℕ) → Policy
    range : (field low high : ℕ) → Policy
    assign : (field value : ℕ) → Policy
    sum_of : Policies → Policy
    seq_of : Policies → Policy
    not_of : Policy → Policy
    star_of : Policy → Policy
    dup : (mark : ℕ) → Policy
    link : (sw pt sw' pt' mark : ℕ) → Policy

  -- the parts of a sum or a sequence, in order
  pub data Policies : Type 0 where
    no_part : Policies
    part : Policy → Policies → Policies

-- 1 for a leaf, and 1 more than the deepest part for the rest
abbrev mutual
  pub depth_of : Policy → ℕ
  depth_of (test f n) = 1
  depth_of (range f lo hi) = 1
  depth_of (assign f n) = 1
  depth_of (sum_of ps) = 1 + depths_of ps
  depth_of (seq_of ps) = 1 + depths_of ps
  depth_of (not_of p) = 1 + depth_of p
  depth_of (star_of p) = 1 + depth_of p
  depth_of (dup l) = 1
  depth_of (link a m b n l) = 1

  -- the depth of the deepest part, 0 where there is none
  pub depths_of : Policies → ℕ
  depths_of no_part = 0
  depths_of (part p ps) = max (depth_of p) (depths_of ps)

-- how many elements the tree has
abbrev mutual
  pub size_of : Policy → ℕ
  size_of (test f n) = 1
  size_of (range f lo hi) = 1
  size_of (assign f n) = 1
  size_of (sum_of ps) = 1 + sizes_of ps
  size_of (seq_of ps) = 1 + sizes_of ps
  size_of (not_of p) = 1 + size_of p
  size_of (star_of p) = 1 + size_of p
  size_of (dup l) = 1
  size_of (link a m b n l) = 1

  -- the elements of all parts
  pub sizes_of : Policies → ℕ
  sizes_of no_part = 0
  sizes_of (part p ps) = size_of p + sizes_of ps

-- how many dups it has, a link counting two
abbrev mutual
  pub dups_of : Policy → ℕ
  dups_of (test f n) = 0
  dups_of (range f lo hi) = 0
  dups_of (assign f n) = 0
  dups_of (sum_of ps) = dups_of_all ps
  dups_of (seq_of ps) = dups_of_all ps
  dups_of (not_of p) = dups_of p
  dups_of (star_of p) = dups_of p
  dups_of (dup l) = 1
  dups_of (link a m b n l) = 2

  -- the dups of all parts
  pub dups_of_all : Policies → ℕ
  dups_of_all no_part = 0
  dups_of_all (part p ps) = dups_of p + dups_of_all ps

-- the numbers of its dups in text order
abbrev mutual
  pub numbers_of : Policy → List ℕ
  numbers_of (test f n) = []
  numbers_of (range f lo hi) = []
  numbers_of (assign f n) = []
  numbers_of (sum_of ps) = numbers_of_all ps
  numbers_of (seq_of ps) = numbers_of_all ps
  numbers_of (not_of p) = numbers_of p
  numbers_of (star_of p) = numbers_of p
  numbers_of (dup l) = l ∷ []
  numbers_of (link a m b n l) = l ∷ (l + 1) ∷ []

  -- the numbers of all parts
  pub numbers_of_all : Policies → List ℕ
  numbers_of_all no_part = []
  numbers_of_all (part p ps) = numbers_of p ++ numbers_of_all ps

-- tests, ranges, and sums, sequences and complements of predicates
abbrev mutual
  pub is_predicate : Policy → Bool
  is_predicate (test f n) = true
  is_predicate (range f lo hi) = true
  is_predicate (assign f n) = false
  is_predicate (sum_of ps) = are_predicates ps
  is_predicate (seq_of ps) = are_predicates ps
  is_predicate (not_of p) = is_predicate p
  is_predicate (star_of p) = false
  is_predicate (dup l) = false
  is_predicate (link a m b n l) = false

  -- all parts are predicates
  pub are_predicates : Policies → Bool
  are_predicates no_part = true
  are_predicates (part p ps) = is_predicate p && are_predicates ps

-- the policy with its dups numbered in text order, from first on
abbrev mutual
  pub marked_from : Policy → ℕ → Policy
  marked_from (test f n) first = test f n
  marked_from (range f lo hi) first = range f lo hi
  marked_from (assign f n) first = assign f n
  marked_from (sum_of ps) first = sum_of (all_marked_from ps first)
  marked_from (seq_of ps) first = seq_of (all_marked_from ps first)
  marked_from (not_of p) first = not_of (marked_from p first)
  marked_from (star_of p) first = star_of (marked_from p first)
  marked_from (dup l) first = dup first
  marked_from (link a m b n l) first = link a m b n first

  -- the parts, each one numbered from where the one before it ends
  pub all_marked_from : Policies → ℕ → Policies
  all_marked_from no_part first = no_part
  all_marked_from (part p ps) first = part (marked_from p first) (all_marked_from ps (first + dups_of p))

-- the six parts that a link literal stands for
abbrev pub link_parts : ℕ → ℕ → ℕ → ℕ → ℕ → Policies
link_parts a m b n l =
    part (test 0 a) (part (test 1 m) (part (dup l) (part (assign 0 b) (part (assign 1 n) (part (dup (l + 1)) no_part)))))

-- the policy with each link literal as its six parts
abbrev mutual
  pub without_links : Policy → Policy
  without_links (test f n) = test f n
  without_links (range f lo hi) = range f lo hi
  without_links (assign f n) = assign f n
  without_links (sum_of ps) = sum_of (all_without_links ps)
  without_links (seq_of ps) = seq_of (all_without_links ps)
  without_links (not_of p) = not_of (without_links p)
  without_links (star_of p) = star_of (without_links p)
  without_links (dup l) = dup l
  without_links (link a m b n l) = seq_of (link_parts a m b n l)

  -- the parts, written out
  pub all_without_links : Policies → Policies
  all_without_links no_part = no_part
  all_without_links (part p ps) = part (without_links p) (all_without_links ps)

-- each link's mark is below a bound
abbrev mutual
  pub MarksBelow : Policy → ℕ → Type 0
  MarksBelow (test f n) most = Unit {0}
  MarksBelow (range f lo hi) most = Unit {0}
  MarksBelow (assign f n) most = Unit {0}
  MarksBelow (sum_of ps) most = AllMarksBelow ps most
  MarksBelow (seq_of ps) most = AllMarksBelow ps most
  MarksBelow (not_of p) most = MarksBelow p most
  MarksBelow (star_of p) most = MarksBelow p most
  MarksBelow (dup l) most = Unit {0}
  MarksBelow (link a m b n l) most = l < most

  -- the marks of all parts are
  pub AllMarksBelow : Policies → ℕ → Type 0
  AllMarksBelow no_part most = Unit {0}
  AllMarksBelow (part p ps) most = MarksBelow p most × AllMarksBelow ps most
