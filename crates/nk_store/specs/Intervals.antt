-- The intervals of a node, and its else-child: the child with the most values, and on a tie the one of the least value.
use Rattle.std.specs.Prelude.{ℕ, zero, suc, ◌+◌, ◌-◌, ◌==◌, ◌&&◌, Bool, true, false, nat_lt, if◌then◌else◌, List, [], ◌∷◌}
use Rattle.nk_store.specs.Diagram.{Diagram, Branches, leaf, case, no_branch, branch}

-- an interval of values with its child, and what was made of the child
pub record Interval (L R : Type 0) : Type 0 where
  pub first : ℕ
  pub last : ℕ
  pub child : Diagram L
  pub made : R

-- whether a tree is a leaf with the same value
abbrev pub same_leaf : {L : Type 0} → (L → L → Bool) → L → Diagram L → Bool
same_leaf same a (leaf b) = same a b
same_leaf same a (case f bs) = false

-- whether a tree is a choice by the field with the same branches
abbrev pub same_node : {L : Type 0} → ℕ → (Branches L → Bool) → Diagram L → Bool
same_node f sames (leaf b) = false
same_node f sames (case g cs) = (f == g) && sames cs

-- whether there is no branch
abbrev pub are_none : {L : Type 0} → Branches L → Bool
are_none no_branch = true
are_none (branch end d bs) = false

-- whether branches begin with the same end and child and go on the same
abbrev pub same_branch : {L : Type 0} → ℕ → (Diagram L → Bool) → (Branches L → Bool) → Branches L → Bool
same_branch end same sames no_branch = false
same_branch end same sames (branch end' d bs) = (end == end') && same d && sames bs

-- whether two trees are the same, by a test of two leaves
abbrev mutual
  pub same_tree : {L : Type 0} → Diagram L → (L → L → Bool) → Diagram L → Bool
  same_tree (leaf a) same e = same_leaf same a e
  same_tree (case f bs) same e = same_node f (λ cs. same_trees bs same cs) e

  -- whether two lists of branches are the same
  pub same_trees : {L : Type 0} → Branches L → (L → L → Bool) → Branches L → Bool
  same_trees no_branch same cs = are_none cs
  same_trees (branch end d bs) same cs =
      same_branch end (λ e. same_tree d same e) (λ es. same_trees bs same es) cs

-- how many values have this child
abbrev pub values_with : {L R : Type 0} → (L → L → Bool) → Diagram L → List (Interval L R) → ℕ
values_with same d [] = 0
values_with same d (i ∷ is) =
    (if same_tree d same i.child then i.last + 1 - i.first else 0) + values_with same d is

-- of these intervals, one whose child has the most values of all, the first of several
abbrev pub with_most : {L R : Type 0} → (L → L → Bool) → List (Interval L R) → Interval L R →
    List (Interval L R) → Interval L R
with_most same all best [] = best
with_most same all best (i ∷ is) =
    if nat_lt (values_with same best.child all) (values_with same i.child all) then with_most same all i is
    else with_most same all best is

-- so many values from one on
abbrev pub counted : ℕ → ℕ → List ℕ
counted from zero = []
counted from (suc n) = from ∷ counted (from + 1) n
