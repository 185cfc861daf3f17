-- A set of the store as a plain tree.
use Rattle.std.specs.Prelude.{ℕ, List}
use Rattle.nk_store.specs.declared.node.Out.{Out}
use Rattle.nk_store.specs.StoreState.{StoreState}
pub use Rattle.nk_store.specs.Trees.{branches_of, tree_in}
use Rattle.nk_sets.specs.Predicate.{SetTree}

-- the leaf of a set's tree has the outs themselves
abbrev pub held_outs : List Out → List Out
held_outs outs = outs

-- the tree of a set of the store
unfoldable pub set_tree : StoreState → ℕ → SetTree
set_tree st s = tree_in held_outs st.nodes s
