use Rattle.std.proofs.Common.{◌∙◌, sym, subst, arith}
use Rattle.std.proofs.lemmas.Result.{IfOk-weaker}
use Rattle.nk_store.specs.StoreState.{IsNodeOf}
use Rattle.nk_apply.proofs.MadeOf.{leaf_made}
use Rattle.nk_apply.proofs.maps.map_leaf.Goals as goal

pub returns-clause-ok : goal.returns-clause-ok
returns-clause-ok g c = IfOk-weaker c.leaf.result _ _
    (λ r h. leaf_made c.args.st.now c.leaf.new.self (g.M.LeafMap.mapped c.args.m.now) c.args.d r c.as_slice.result.now c.in_ok-outs-in-Leaf.outs
    (λ pk. (subst (IsNodeOf c.args.st.now c.args.d) c.in-Leaf.is c.view.ensures.means).leaf pk ∙ sym c.as_slice.ensures)
    c.in_ok-outs-in-Leaf.ensures.is h.0 h.1 h.2) c.leaf.ensures.ok

pub returns-clause-later : goal.returns-clause-later
returns-clause-later g c =
    let node = subst (IsNodeOf c.args.st.now c.args.d) c.in-Leaf.is c.view.ensures.means in
    IfOk-weaker c.leaf.result _ _ (λ r h. omega (arith, h, node.root_field_is)) c.leaf.ensures.later
