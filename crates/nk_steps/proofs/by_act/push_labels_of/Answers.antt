use Rattle.std.proofs.Common.{◌++◌, ◌∙◌, sym, ap}
use Rattle.std.proofs.lemmas.List.{append-nil}
use Rattle.std.proofs.lemmas.Result.{on_ok_weaker}
use Rattle.nk_apply.proofs.Sequences.{outs_leaf, outs_case}
use Rattle.nk_determ.specs.Branches.{labels_of}
use Rattle.nk_steps.proofs.by_act.push_labels_of.Goals as goal

pub returns-in-Leaf : goal.returns-in-Leaf
returns-in-Leaf c = on_ok_weaker c.push_labels.result
    (λ e. e ∙ ap (λ os. c.args.all.now ++ labels_of c.args.act.now os) (c.as_slice.ensures ∙ sym (outs_leaf c.args.st.now c.args.d c.view.result.now c.in-Leaf.outs c.view.ensures.node c.in-Leaf.is))) c.push_labels.ensures

pub returns-in-Case : goal.returns-in-Case
returns-in-Case c =
    sym (append-nil c.args.all.now)
    ∙ ap (λ os. c.args.all.now ++ labels_of c.args.act.now os) (sym (outs_case c.args.st.now c.args.d c.in-Case.field-0 c.view.result.now c.in-Case.field-1 c.view.ensures.node c.in-Case.is))
