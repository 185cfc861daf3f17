use Rattle.std.proofs.lemmas.Result.{IfOk-weaker}
use Rattle.nk_steps.proofs.StepsTogether.{grown_same, leads_same, led_same}
use Rattle.nk_steps.proofs.together.steps_together.Goals as goal

pub steps_of-requires : goal.steps_of-requires
steps_of-requires c = λ k l. c.steps_of_one.ensures.grows.ids _ (c.requires k l)

pub returns-in-None-clause-leads : goal.returns-in-None-clause-leads
returns-in-None-clause-leads c = IfOk-weaker c.steps_of.result _ _
    (λ r h. leads_same c.args.st.now c.steps_of_one.new.st c.steps_of.new.st c.args.diagrams.now c.args.diagrams.now c.steps_of_one.ensures.grows
    (grown_same c.args.st.now c.steps_of_one.new.st c.args.diagrams.now c.steps_of_one.ensures.grows c.requires) c.steps_of.new.ss r h) c.steps_of.ensures.leads

pub returns-in-None-clause-led : goal.returns-in-None-clause-led
returns-in-None-clause-led c = IfOk-weaker c.steps_of.result _ _
    (λ r h. led_same c.args.st.now c.steps_of_one.new.st c.steps_of.new.st c.args.diagrams.now c.args.diagrams.now c.steps_of_one.ensures.grows
    (grown_same c.args.st.now c.steps_of_one.new.st c.args.diagrams.now c.steps_of_one.ensures.grows c.requires) c.steps_of.new.ss r h) c.steps_of.ensures.led
