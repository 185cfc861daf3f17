use Rattle.std.proofs.Common.{sym, subst}
use Rattle.nk_store.specs.declared.node.Node.TheVariants.{Leaf}
use Rattle.nk_store.specs.Leaves.{Every, Suits}
use Rattle.nk_store.specs.StoreState.{IsNodeOf}
use Rattle.nk_apply.proofs.pairs.merge_leaves.Goals as goal

pub leaf_in_order-requires-clause-suits : goal.leaf_in_order-requires-clause-suits
leaf_in_order-requires-clause-suits g c =
    let st = c.args.st.now in
    let left : IsNodeOf st c.args.a (Leaf c.in-Leaf-Leaf.x) = subst (IsNodeOf st c.args.a) c.in-Leaf-Leaf.is-0 c.view.ensures.means in
    let right : IsNodeOf st c.args.b (Leaf c.in-Leaf-Leaf.y) = subst (IsNodeOf st c.args.b) c.in-Leaf-Leaf.is-1 c.view-2.ensures.means in
    c.in_ok-outs-in-Leaf-Leaf.ensures.suits st.maxes
    (subst (Every (Suits st.maxes)) (sym c.as_slice.ensures) left.suits)
    (subst (Every (Suits st.maxes)) (sym c.as_slice-in-Leaf-Leaf.ensures) right.suits)
