use Rattle.std.proofs.Common.{◌≡◌, ◌<◌, [], ◌∷◌, ◌++◌, ◌∙◌, length, get_or, sym, ap, subst, arith}
use Rattle.std.specs.List.{Contains}
use Rattle.nk_steps.specs.Plain.{fields_in}
use Rattle.nk_steps.specs.ByAct.{AreActsOf}
use Rattle.nk_steps.proofs.ByActs.{acts_kept, acts_put}
use Rattle.nk_steps.proofs.by_act.add_act.Goals.{then-o-eq0-via-then-o-eq0, then-o-eq0-via-else-o-eq0+then-has_act}
use Rattle.nk_steps.proofs.by_act.add_act.Goals as goal

pub returns-then-o-eq0 : goal.returns-then-o-eq0
returns-then-o-eq0 c = λ _ before are. acts_kept before c.args.o.now c.args.acts.now are (λ pos.
    elim c.then-o-eq0.branch [
      | then-o-eq0-via-then-o-eq0 w ↦ absurd (omega (arith, w.if-o-eq0.true, pos))
      | then-o-eq0-via-else-o-eq0+then-has_act w ↦ subst (λ gs. Contains gs c.args.o.now.act) w.as_slice.ensures (w.has_act.ensures w.if-has_act.true)
    ])

pub returns : goal.returns
returns c = λ _ before are.
    let o = c.args.o.now in
    subst (λ gs. AreActsOf (before ++ o ∷ []) gs) (sym (c.in_ok-push.ensures.ok ∙ ap (λ g. c.args.acts.now ++ g ∷ []) c.in_ok-copy.ensures))
    (acts_put before o c.args.acts.now are (omega (arith, c.if-o-eq0.false))
    (subst (λ gs. 0 < length gs → fields_in (get_or gs 0 []) ≡ fields_in o.act) c.as_slice-else-len-eq-MOST_ACTS.ensures (c.goes_with.ensures c.if-not-goes_with.false)))
