-- A number of the store as a plain tree, whose leaves are made of the outs.
use Rattle.std.specs.Prelude.{ℕ, cond, eqb, List, [], ◌∷◌, length}
use Rattle.nk_store.specs.declared.node.Node.{Node}
use Rattle.nk_store.specs.declared.node.Node.TheVariants.{Leaf, Case}
use Rattle.nk_store.specs.declared.node.Out.{Out}
use Rattle.nk_store.specs.Diagram.{Diagram, Branches, leaf, case, no_branch, branch}

-- the branches of parts, by the trees of their children
abbrev pub branches_of : {L : Type 0} → List (ℕ × ℕ) → (ℕ → Diagram L) → Branches L
branches_of [] tree = no_branch
branches_of (p ∷ ps) tree = branch p.0 (tree p.1) (branches_of ps tree)

-- a node as a tree, by what is made of a leaf's outs and the trees of its children
abbrev pub node_tree : {L : Type 0} → (List Out → L) → Node → (ℕ → Diagram L) → Diagram L
node_tree made (Leaf outs) tree = leaf (made outs)
node_tree made (Case f parts) tree = case f (branches_of parts tree)

-- the tree of a number of the nodes
abbrev pub tree_in : {L : Type 0} → (List Out → L) → List Node → ℕ → Diagram L
tree_in made [] i = leaf (made [])
tree_in made (n ∷ older) i =
    cond (eqb i (length older)) (node_tree made n (λ c. tree_in made older c)) (tree_in made older i)
