use Rattle.std.proofs.Common.{subst, eq-eqb, ◌∙◌}
use Rattle.nk_store.proofs.Stores.{IsSound, same_id}
use Rattle.nk_store.proofs.node_table.NodeTable.same.Goals as goal

pub returns-clause-canonical : goal.returns-clause-canonical
returns-clause-canonical c = λ agree.
    c.eq.ensures ∙ eq-eqb _ _ (same_id c.args.self.now c.args.d c.args.e (subst IsSound c.self.view_is c.self.invariant) c.requires.left c.requires.right agree)
