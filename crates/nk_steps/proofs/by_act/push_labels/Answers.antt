use Rattle.std.proofs.Common.{◌≡◌, [], ◌∷◌, ◌∙◌, ◌++◌, sym, ap, arith}
use Rattle.std.proofs.lemmas.List.{append-nil}
use Rattle.nk_determ.specs.Branches.{labels_of}
use Rattle.nk_steps.proofs.ByActs.{label_more, label_put, label_of_other, label_of_final}
use Rattle.nk_steps.proofs.by_act.push_labels.Goals.{then-o-ne0+then-eq+in_ok-push, else-o-ne0, else-o-ne0-via-then-o-ne0+else-eq, else-o-ne0-via-else-o-ne0}
use Rattle.nk_steps.proofs.by_act.push_labels.Goals as goal

pub loop-o-preserved : goal.loop-o-preserved
loop-o-preserved c =
    let g = c.args.act.now in
    let o = c.o-item.result in
    let put : c.if-o-ne0.all ≡ c.loop-o.all ++ labels_of g (o ∷ []) =
    elim c.if-o-ne0.branch [
      | then-o-ne0+then-eq+in_ok-push w ↦ w.all-is ∙ w.in_ok-push.ensures.ok ∙ ap (λ ls. c.loop-o.all ++ ls) (sym (label_put g o (sym w.eq.ensures ∙ w.if-eq.true) (omega (arith, w.if-o-ne0.true))))
      | else-o-ne0 w ↦
          let none : labels_of g (o ∷ []) ≡ [] = elim w.else-o-ne0.branch [
            | else-o-ne0-via-then-o-ne0+else-eq v ↦ label_of_other g o (sym v.eq.ensures ∙ v.if-eq.false)
            | else-o-ne0-via-else-o-ne0 v ↦ label_of_final g o (omega (arith, v.if-o-ne0.false))
          ] in
          w.all-is ∙ sym (append-nil c.loop-o.all) ∙ ap (λ ls. c.loop-o.all ++ ls) (sym none)
    ] in
    label_more c.args.outs.now g c.loop-o.o-index o c.loop-o.all c.args.all.now c.if-o-ne0.all c.loop-o-test.true c.o-item.is c.loop-o.invariant put
