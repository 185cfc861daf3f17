-- The predicate that is printed for a packet set, by recursion on the set's reduced tree (NetKAT's predicates: Anderson et
-- al., POPL 2014). A part of a node is a maximal interval of neighbouring values that have one child, which is not the
-- else-child: since neighbouring children of a reduced tree differ, each interval with another child is one part. A part
-- whose child is not empty has a term of its own, and the last term excludes all parts.
use Rattle.std.specs.Prelude.{ℕ, ◌+◌, ◌==◌, Bool, false, not, if◌then◌else◌, List, [], ◌∷◌, ◌++◌}
use Rattle.std.specs.List.{flat_map}
use Rattle.nk_policy.specs.Policy.{Policy, Policies, test, range, sum_of, seq_of, not_of, no_part, part}
use Rattle.nk_policy.specs.After.{id_policy, drop_policy}
use Rattle.nk_store.specs.declared.node.Out.{Out}
use Rattle.nk_store.specs.Diagram.{Diagram, Branches, leaf, case, no_branch, branch}
use Rattle.nk_store.specs.Intervals.{Interval, same_tree, with_most}
use Rattle.nk_sets.specs.PacketSets.{has_some_out}

-- two leaves of sets: both with an out or both without
abbrev pub same_outs : List Out → List Out → Bool
same_outs a b = if has_some_out a then has_some_out b else not (has_some_out b)

-- a set's tree
abbrev pub SetTree : Type 0
SetTree = Diagram (List Out)

-- an interval of values of a set, with the predicate of its child
abbrev pub SetInterval : Type 0
SetInterval = Interval (List Out) Policy

-- the tree of no packet
abbrev pub is_empty_set : SetTree → Bool
is_empty_set (leaf outs) = not (has_some_out outs)
is_empty_set (case f bs) = false

-- the tree of all packets
abbrev pub is_full_set : SetTree → Bool
is_full_set (leaf outs) = has_some_out outs
is_full_set (case f bs) = false

-- a list of policies as the parts of a sum or a sequence
abbrev pub parts_of : List Policy → Policies
parts_of [] = no_part
parts_of (p ∷ ps) = part p (parts_of ps)

-- the sum of terms, of which one alone stands for itself
abbrev pub sum_of_terms : List Policy → Policy
sum_of_terms [] = drop_policy
sum_of_terms (p ∷ []) = p
sum_of_terms (p ∷ q ∷ ps) = sum_of (parts_of (p ∷ q ∷ ps))

-- a condition, and then the child's predicate unless the child is all packets
abbrev pub guarded_predicate : Policy → SetTree → Policy → Policy
guarded_predicate condition child rest = if is_full_set child then condition else seq_of (part condition (part rest no_part))

-- the field's value is from the first to the last: a test of one value, or a range of several
abbrev pub within : ℕ → ℕ → ℕ → Policy
within f first last = if first == last then test f first else range f first last

-- a part as a condition: the field's value is in it
abbrev pub part_of : ℕ → SetInterval → Policy
part_of f i = within f i.first i.last

-- the term of an interval, where it is a part whose child is not empty
abbrev pub terms_of : ℕ → SetTree → SetInterval → List Policy
terms_of f other i =
    if same_tree other same_outs i.child then []
    else (if is_empty_set i.child then [] else guarded_predicate (part_of f i) i.child i.made ∷ [])

-- the condition of an interval, where it is a part
abbrev pub conditions_of : ℕ → SetTree → SetInterval → List Policy
conditions_of f other i = if same_tree other same_outs i.child then [] else part_of f i ∷ []

-- the conditions of all parts, ascending
abbrev pub parts_outside : ℕ → SetTree → List SetInterval → List Policy
parts_outside f other is = flat_map (conditions_of f other) is

-- the condition that the value is in no part
abbrev pub else_condition : ℕ → SetInterval → List SetInterval → Policy
else_condition f other is = not_of (sum_of_terms (parts_outside f other.child is))

-- the term of the else-child, unless that is empty
abbrev pub else_terms : ℕ → SetInterval → List SetInterval → List Policy
else_terms f other is =
    if is_empty_set other.child then [] else guarded_predicate (else_condition f other is) other.child other.made ∷ []

-- the predicate of a choice with these intervals
abbrev pub predicate_at : ℕ → List SetInterval → Policy
predicate_at f [] = drop_policy
predicate_at f (i ∷ is) =
    let other = with_most same_outs (i ∷ is) i is in
    sum_of_terms (flat_map (terms_of f other.child) (i ∷ is) ++ else_terms f other (i ∷ is))

-- the predicate of a reduced tree
abbrev mutual
  pub predicate_of : SetTree → Policy
  predicate_of (leaf outs) = if has_some_out outs then id_policy else drop_policy
  predicate_of (case f bs) = predicate_at f (intervals_of bs 0)

  -- the intervals of branches, from a value on
  pub intervals_of : Branches (List Out) → ℕ → List SetInterval
  intervals_of no_branch from = []
  intervals_of (branch end d bs) from =
      record { first = from; last = end; child = d; made = predicate_of d } ∷ intervals_of bs (end + 1)
