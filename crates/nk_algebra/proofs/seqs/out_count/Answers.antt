use Rattle.std.proofs.Common.{◌∙◌, sym, ap, subst, length}
use Rattle.nk_store.specs.StoreState.{IsNodeOf}
use Rattle.nk_apply.proofs.Sequences.{outs_leaf}
use Rattle.nk_algebra.proofs.seqs.out_count.Goals as goal

pub returns-clause-count : goal.returns-clause-count
returns-clause-count c = c.len.ensures ∙ ap (λ os. length os) (sym (outs_leaf c.args.st.now c.args.a c.view.result.now c.in-Leaf.outs c.view.ensures.node c.in-Leaf.is))

pub returns-clause-outs : goal.returns-clause-outs
returns-clause-outs c = λ pk.
    (subst (IsNodeOf c.args.st.now c.args.a) c.in-Leaf.is c.view.ensures.means).leaf pk ∙ sym (outs_leaf c.args.st.now c.args.a c.view.result.now c.in-Leaf.outs c.view.ensures.node c.in-Leaf.is)
