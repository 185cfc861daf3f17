use Rattle.std.proofs.Common.{◌∙◌, sym, subst}
use Rattle.nk_steps.specs.Single.{AreSteps}
use Rattle.nk_steps.proofs.SingleLeaves.{steps_of_label, steps_of_finals}
use Rattle.nk_steps.proofs.single.outs_single.Goals as goal

pub returns-then-label-eq0-clause-ok : goal.returns-then-label-eq0-clause-ok
returns-then-label-eq0-clause-ok c =
    subst (AreSteps c.args.ss.now c.args.outs.now) (sym c.new.ensures) (steps_of_finals c.args.ss.now c.label_in-label.result c.args.outs.now (sym c.have_label.ensures ∙ c.if-not-have_label.false) c.if-label-eq0.true)

pub returns-clause-ok : goal.returns-clause-ok
returns-clause-ok c =
    steps_of_label c.target_single.new.ss c.label_in-label.result c.in_ok-target.target c.args.outs.now c.in_ok-steps.steps (sym c.have_label.ensures ∙ c.if-not-have_label.false) c.in_ok-target.ensures.there c.in_ok-target.ensures.ok c.in_ok-steps.ensures
