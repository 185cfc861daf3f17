use Rattle.std.proofs.Common.{subst, sym, ap, ◌∙◌, arith, ◌≡◌, slice_get, Some}
use Rattle.std.proofs.lemmas.Option.{get_or_from_slice_get}
use Rattle.nk_store.specs.StoreState.{node_of}
use Rattle.nk_store.proofs.Stores.{IsSound, bare, kept_id, kept_node, node_means, is_still, is_reduced, is_tidy}
use Rattle.nk_store.proofs.node_table.NodeTable.view.Goals as goal

pub at-requires : goal.at-requires
at-requires c = omega (arith, c.place.ensures, kept_id c.args.self.now (bare c.self.inside.maxes c.self.inside.width c.self.inside.tag c.self.inside.answers) c.self.inside.nodes c.args.d c.self.view_is c.requires)

node_is : (c : goal.After-at) → c.at.result.now ≡ node_of c.args.self.now c.args.d
node_is c =
    let at : slice_get c.self.inside.nodes c.args.d ≡ Some c.at.result.now = ap (λ k. slice_get c.self.inside.nodes k) (sym c.place.ensures) ∙ c.at.ensures in
    kept_node c.args.self.now (bare c.self.inside.maxes c.self.inside.width c.self.inside.tag c.self.inside.answers) c.self.inside.nodes c.args.d c.at.result.now c.self.view_is c.requires (sym (get_or_from_slice_get c.self.inside.nodes c.args.d c.at.result.now c.at.result.now at))

pub returns-clause-node : goal.returns-clause-node
returns-clause-node c = node_is c

pub returns-clause-means : goal.returns-clause-means
returns-clause-means c = node_means c.args.self.now c.args.d c.at.result.now (subst IsSound c.self.view_is c.self.invariant) c.requires (sym (node_is c))

pub returns-clause-still : goal.returns-clause-still
returns-clause-still c = is_still c.args.self.now c.args.d (subst IsSound c.self.view_is c.self.invariant) c.requires

pub returns-clause-reduced : goal.returns-clause-reduced
returns-clause-reduced c = is_reduced c.args.self.now c.args.d (subst IsSound c.self.view_is c.self.invariant) c.requires

pub returns-clause-tidy : goal.returns-clause-tidy
returns-clause-tidy c = λ d. is_tidy c.args.self.now d (subst IsSound c.self.view_is c.self.invariant)
