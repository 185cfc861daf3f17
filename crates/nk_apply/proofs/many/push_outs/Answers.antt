use Rattle.std.proofs.Common.{◌++◌, ◌∙◌, sym, ap}
use Rattle.std.proofs.lemmas.List.{append-nil}
use Rattle.nk_apply.proofs.AtOnce.{on_weaker}
use Rattle.nk_apply.proofs.Sequences.{outs_leaf, outs_case}
use Rattle.nk_apply.proofs.many.push_outs.Goals as goal

pub returns-in-Leaf : goal.returns-in-Leaf
returns-in-Leaf c = on_weaker c.copy_from.result _ _
    (λ e. e ∙ ap (λ os. c.args.all.now ++ os) (c.as_slice.ensures ∙ sym (outs_leaf c.args.st.now c.args.d c.view.result.now c.in-Leaf.outs c.view.ensures.node c.in-Leaf.is))) c.copy_from.ensures

pub returns-in-Case : goal.returns-in-Case
returns-in-Case c =
    sym (append-nil c.args.all.now) ∙ ap (λ os. c.args.all.now ++ os) (sym (outs_case c.args.st.now c.args.d c.in-Case.field-0 c.view.result.now c.in-Case.field-1 c.view.ensures.node c.in-Case.is))
