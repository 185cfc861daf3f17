use Rattle.std.proofs.Common.{arith, sym, subst}
use Rattle.nk_store.specs.Nodes.{Each}
use Rattle.nk_store.specs.declared.node.Node.TheVariants.{Case}
use Rattle.nk_store.specs.StoreState.{IsId, IsChild, IsNodeOf}
use Rattle.nk_store.proofs.Looks.{each_weaker}
use Rattle.nk_algebra.proofs.Chosen.{each_place}
use Rattle.nk_algebra.proofs.partition.+first_keeps.Goals as goal

pub first_keeps-keeps_below-requires : goal.first_keeps-keeps_below-requires
first_keeps-keeps_below-requires t c =
    let means : IsNodeOf c.args.st.now c.args.d (Case c.in-Case.field-0 c.in-Case.parts) = subst (IsNodeOf c.args.st.now c.args.d) c.in-Case.is c.view.ensures.means in
    (omega (arith, c.decreases), subst (λ ps. Each (IsId c.args.st.now) ps) (sym c.as_slice-in-Case.ensures) (each_weaker (IsChild c.args.st.now c.in-Case.field-0) (IsId c.args.st.now) c.in-Case.parts (λ d h. h.id) means.parts_ok.children))

pub keeps_below-first_keeps-requires : goal.keeps_below-first_keeps-requires
keeps_below-first_keeps-requires t c = (omega (arith, c.decreases, c.if-steps-eq0.false), each_place (IsId c.args.st.now) c.args.parts.now c.loop-i.i _ c.requires (omega (arith, c.loop-i-test.true)))
