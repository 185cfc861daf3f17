use Rattle.std.proofs.Common.{refl, ◌∙◌}
use Rattle.nk_store.specs.StoreState.{node_of}
use Rattle.nk_sets.proofs.Printing.{empty_leaf_is}
use Rattle.nk_sets.proofs.predicate.is_none.Goals as goal

pub returns : goal.returns
returns c = c.drops.ensures.is ∙ empty_leaf_is c.args.st.now c.args.c (node_of c.args.st.now c.args.c) c.requires refl (c.laws-laws.ensures.nodes c.args.c c.requires)
