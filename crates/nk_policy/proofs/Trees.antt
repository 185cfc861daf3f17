-- The tree of a sum or a sequence, by its parts as a list.
use Rattle.std.proofs.Common.{◌≡◌, ℕ, List, [], ◌∷◌, ◌++◌, refl, ap, sym, subst, ◌∙◌}
use Rattle.nk_policy.specs.Policy.{Policies, sum_of, seq_of, no_part, part, dups_of, dups_of_all, MarksBelow, AllMarksBelow}
use Rattle.nk_policy.specs.Tree.{tree_of, trees_of_row, trees_of}
use Rattle.nk_policy.specs.declared.policy.Pol.{Pol, Row_of-Pol, end_of-Pol, more_of-Pol, items-the_row-Pol, items_hidden-the_row-Pol-0}
use Rattle.nk_policy.specs.declared.policy.Pol.TheViews.{Sum, Seq}
use Rattle.nk_policy.specs.declared.policy.Pols.{Pols}
use Rattle.nk_policy.specs.declared.policy.Pol.TheBlock.{hidden-the_row-Pol-0}

-- the trees of a row are those of its list
row_trees : {m : _} → (k : Row_of-Pol m) → trees_of_row k ≡ trees_of (items-the_row-Pol m k)
row_trees end_of-Pol = refl
row_trees (more_of-Pol p ps) = ap (part (tree_of p)) (row_trees ps)

-- the tree of a sum is the sum of the trees of its parts
pub tree_of_sum : (ps : Pols) → tree_of (Sum ps) ≡ sum_of (trees_of ps.items.items)
tree_of_sum ps = ap sum_of (row_trees (hidden-the_row-Pol-0 ps.items) ∙ ap trees_of (items_hidden-the_row-Pol-0 ps.items))

-- the tree of a sequence is the sequence of the trees of its parts
pub tree_of_seq : (ps : Pols) → tree_of (Seq ps) ≡ seq_of (trees_of ps.items.items)
tree_of_seq ps = ap seq_of (row_trees (hidden-the_row-Pol-0 ps.items) ∙ ap trees_of (items_hidden-the_row-Pol-0 ps.items))

-- the parts of two lists, one after the other
abbrev pub joined : Policies → Policies → Policies
joined no_part qs = qs
joined (part p ps) qs = part p (joined ps qs)

-- no parts after change nothing
pub joined_none : (ps : Policies) → joined ps no_part ≡ ps
joined_none no_part = refl
joined_none (part p ps) = ap (part p) (joined_none ps)

-- one more part at the end of the first list stands at the head of the second
pub joined_push : (xs : List Pol) (y : Pol) (qs : Policies)
    → joined (trees_of (xs ++ y ∷ [])) qs ≡ joined (trees_of xs) (part (tree_of y) qs)
joined_push [] y qs = refl
joined_push (x ∷ xs) y qs = ap (part (tree_of x)) (joined_push xs y qs)

-- the dups of a sum are those of its parts
pub dups_of_sum : (p : Pol) (ps : Pols) (xs : List Pol) → p ≡ Sum ps → xs ≡ ps.items.items
    → dups_of (tree_of p) ≡ dups_of_all (trees_of xs)
dups_of_sum p ps xs e f = ap (λ q. dups_of (tree_of q)) e ∙ ap dups_of (tree_of_sum ps) ∙ ap (λ l. dups_of_all (trees_of l)) (sym f)

-- and those of a sequence
pub dups_of_seq : (p : Pol) (ps : Pols) (xs : List Pol) → p ≡ Seq ps → xs ≡ ps.items.items
    → dups_of (tree_of p) ≡ dups_of_all (trees_of xs)
dups_of_seq p ps xs e f = ap (λ q. dups_of (tree_of q)) e ∙ ap dups_of (tree_of_seq ps) ∙ ap (λ l. dups_of_all (trees_of l)) (sym f)

-- a bound on the marks of a sum is one for its parts
pub marks_of_sum : (p : Pol) (ps : Pols) (xs : List Pol) (most : ℕ) → p ≡ Sum ps
    → xs ≡ ps.items.items → MarksBelow (tree_of p) most → AllMarksBelow (trees_of xs) most
marks_of_sum p ps xs most e f h =
    let t : MarksBelow (sum_of (trees_of ps.items.items)) most = subst (λ u. MarksBelow u most) (ap tree_of e ∙ tree_of_sum ps) h in
    subst (λ l. AllMarksBelow (trees_of l) most) (sym f) t

-- and so for a sequence
pub marks_of_seq : (p : Pol) (ps : Pols) (xs : List Pol) (most : ℕ) → p ≡ Seq ps
    → xs ≡ ps.items.items → MarksBelow (tree_of p) most → AllMarksBelow (trees_of xs) most
marks_of_seq p ps xs most e f h =
    let t : MarksBelow (seq_of (trees_of ps.items.items)) most = subst (λ u. MarksBelow u most) (ap tree_of e ∙ tree_of_seq ps) h in
    subst (λ l. AllMarksBelow (trees_of l) most) (sym f) t
