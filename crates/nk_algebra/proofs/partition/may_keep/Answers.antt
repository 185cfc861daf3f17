use Rattle.std.proofs.Common.{sym, subst}
use Rattle.nk_store.specs.Nodes.{Each}
use Rattle.nk_store.specs.declared.node.Node.TheVariants.{Case}
use Rattle.nk_store.specs.StoreState.{IsId, IsChild, IsNodeOf}
use Rattle.nk_store.proofs.Looks.{each_weaker}
use Rattle.nk_algebra.proofs.partition.may_keep.Goals as goal

pub some_keeps-requires : goal.some_keeps-requires
some_keeps-requires c =
    let means : IsNodeOf c.args.st.now c.args.a (Case c.in-Case.f c.in-Case.parts) = subst (IsNodeOf c.args.st.now c.args.a) c.in-Case.is c.view.ensures.means in
    subst (λ ps. Each (IsId c.args.st.now) ps) (sym c.as_slice.ensures) (each_weaker (IsChild c.args.st.now c.in-Case.f) (IsId c.args.st.now) c.in-Case.parts (λ d h. h.id) means.parts_ok.children)
