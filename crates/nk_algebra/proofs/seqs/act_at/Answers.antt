use Rattle.std.proofs.Common.{◌<◌, ◌∙◌, sym, ap, subst, length}
use Rattle.std.proofs.lemmas.Result.{IfOk-weaker}
use Rattle.nk_store.specs.declared.node.Out.{Out}
use Rattle.nk_store.specs.declared.node.Node.TheVariants.{Leaf}
use Rattle.nk_store.specs.Leaves.{Suits, IsActFrom}
use Rattle.nk_store.specs.StoreState.{IsNodeOf}
use Rattle.nk_algebra.proofs.Acts.{every_at}
use Rattle.nk_apply.proofs.Sequences.{outs_leaf, not_case, out_read}
use Rattle.nk_apply.specs.Seqs.{no_out}
use Rattle.nk_algebra.proofs.seqs.act_at.Goals as goal

pub at-requires : goal.at-requires
at-requires c = subst (λ os. c.args.i < length os) (outs_leaf c.args.st.now c.args.a c.view.result.now c.in-Leaf.outs c.view.ensures.node c.in-Leaf.is) c.requires.within

pub unreachable-requires : goal.unreachable-requires
unreachable-requires c = not_case c.args.st.now c.args.a c.in-Case.field-0 c.args.i c.view.result.now c.in-Case.field-1 c.view.ensures.node c.in-Case.is c.requires.within

below : (c : goal.After-copy) → c.args.i < length c.in-Leaf.outs
below c = subst (λ os. c.args.i < length os) (outs_leaf c.args.st.now c.args.a c.view.result.now c.in-Leaf.outs c.view.ensures.node c.in-Leaf.is) c.requires.within

pub returns-clause-is : goal.returns-clause-is
returns-clause-is c =
    IfOk-weaker c.copy.result _ _ (λ g e. e ∙ ap (λ (o : Out). o.act) (out_read c.args.st.now c.args.a c.args.i c.view.result.now c.in-Leaf.outs c.at.result.now no_out c.view.ensures.node c.in-Leaf.is c.at.ensures (below c))) c.copy.ensures

pub returns-clause-suits : goal.returns-clause-suits
returns-clause-suits c =
    let means : IsNodeOf c.args.st.now c.args.a (Leaf c.in-Leaf.outs) = subst (IsNodeOf c.args.st.now c.args.a) c.in-Leaf.is c.view.ensures.means in
    let at : Suits c.args.st.now.maxes c.at.result.now = subst (Suits c.args.st.now.maxes) (sym c.at.ensures) (every_at (Suits c.args.st.now.maxes) c.in-Leaf.outs c.args.i c.at.result.now means.suits (below c)) in
    IfOk-weaker c.copy.result _ _ (λ g e. subst (IsActFrom c.args.st.now.maxes 0) (sym e) at) c.copy.ensures
