use Rattle.std.proofs.Common.{◌∙◌, sym}
use Rattle.nk_apply.proofs.Sequences.{outs_leaf, outs_case}
use Rattle.nk_algebra.proofs.leaf_seqs.outs_at.Goals as goal

pub returns-in-Leaf : goal.returns-in-Leaf
returns-in-Leaf c = c.as_slice.ensures ∙ sym (outs_leaf c.args.st.now c.args.d c.view.result.now c.in-Leaf.outs c.view.ensures.node c.in-Leaf.is)

pub returns-in-Case : goal.returns-in-Case
returns-in-Case c = sym (outs_case c.args.st.now c.args.d c.in-Case.field-0 c.view.result.now c.in-Case.field-1 c.view.ensures.node c.in-Case.is)
