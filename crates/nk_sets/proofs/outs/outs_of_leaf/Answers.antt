use Rattle.std.proofs.Common.{sym, subst}
use Rattle.nk_store.specs.StoreState.{IsNodeOf, IsLeaf}
use Rattle.nk_sets.proofs.ByOut.{leaf_by_out}
use Rattle.nk_sets.proofs.outs.outs_of_leaf.Goals as goal

pub returns-clause-ok : goal.returns-clause-ok
returns-clause-ok c =
    leaf_by_out c.identity.new.st c.args.d c.as_slice.result.now c.in_ok-all.all c.in_ok-es-in-Leaf.es (c.identity.ensures.grows.ids c.args.d c.requires.id)
    (subst (IsLeaf c.identity.new.st c.args.d) (sym c.as_slice.ensures) (subst (IsNodeOf c.identity.new.st c.args.d) c.in-Leaf.is c.view.ensures.means))
    c.in_ok-all.ensures.ok c.in_ok-all.ensures.later c.in_ok-all.ensures.predicate c.in_ok-es-in-Leaf.ensures
