use Rattle.std.proofs.Common.{◌++◌, ◌∙◌, sym, ap, take}
use Rattle.nk_apply.specs.Seqs.{outs_of}
use Rattle.nk_apply.specs.Unions.{outs_in_turn}
use Rattle.nk_determ.specs.Branches.{labels_of}
use Rattle.nk_steps.proofs.ByActs.{turn_on, labels_append}
use Rattle.nk_steps.proofs.by_act.labels_by.Goals as goal

pub loop-d-preserved : goal.loop-d-preserved
loop-d-preserved c =
    let here = labels_of c.args.act.now (outs_of c.args.st.now c.d-item.result) in
    c.in_ok-push_labels_of.ensures ∙ ap (λ ls. ls ++ here) c.loop-d.invariant
    ∙ sym (labels_append c.args.act.now (outs_in_turn c.args.st.now (take c.loop-d.d-index c.args.diagrams.now)) (outs_of c.args.st.now c.d-item.result))
    ∙ ap (λ os. labels_of c.args.act.now os) (turn_on c.args.st.now c.args.diagrams.now c.loop-d.d-index c.d-item.result c.loop-d-test.true c.d-item.is)
