use Rattle.std.proofs.Common.{subst, refl}
use Rattle.nk_store.specs.StoreState.{node_of}
use Rattle.nk_store.proofs.Stores.{IsSound, node_means, is_still, is_reduced, is_tidy, are_canonical}
use Rattle.nk_store.proofs.node_table.NodeTable.laws.Goals as goal

sound : (c : goal.After-self) → IsSound c.args.self.now
sound c = subst IsSound c.self.view_is c.self.invariant

pub returns-clause-canonical : goal.returns-clause-canonical
returns-clause-canonical c = are_canonical c.args.self.now (sound c)

pub returns-clause-nodes : goal.returns-clause-nodes
returns-clause-nodes c = λ d h. node_means c.args.self.now d (node_of c.args.self.now d) (sound c) h refl

pub returns-clause-still : goal.returns-clause-still
returns-clause-still c = λ d h. is_still c.args.self.now d (sound c) h

pub returns-clause-reduced : goal.returns-clause-reduced
returns-clause-reduced c = λ d h. is_reduced c.args.self.now d (sound c) h

pub returns-clause-tidy : goal.returns-clause-tidy
returns-clause-tidy c = λ d. is_tidy c.args.self.now d (sound c)
