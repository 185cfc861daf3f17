use Rattle.std.proofs.lemmas.Result.{IfOk-weaker}
use Rattle.nk_steps.proofs.ByActs.{outs_suit, act_leads, act_led}
use Rattle.nk_steps.proofs.by_act.steps_by_act.Goals as goal

pub leaf-requires : goal.leaf-requires
leaf-requires c =
    outs_suit c.args.st.now c.args.diagrams.now c.laws.ensures.nodes c.requires.ids c.requires.leaves c.laws.ensures.tidy c.args.acts c.requires.acts
    c.outs_by_act.new.ss c.in_ok-outs.outs c.in_ok-outs.ensures.is

pub returns-clause-leads : goal.returns-clause-leads
returns-clause-leads c = IfOk-weaker c.leaf.result _ _ (λ r h.
    act_leads c.args.st.now c.args.diagrams.now c.laws.ensures.nodes c.requires.ids c.requires.leaves c.laws.ensures.tidy c.args.acts c.requires.acts
    c.outs_by_act.new.ss c.in_ok-outs.outs c.in_ok-outs.ensures.is c.leaf.new.self h.0 r h.1 h.2) c.leaf.ensures.ok

pub returns-clause-led : goal.returns-clause-led
returns-clause-led c = IfOk-weaker c.leaf.result _ _ (λ r h.
    act_led c.args.st.now c.args.diagrams.now c.laws.ensures.nodes c.requires.ids c.requires.leaves c.laws.ensures.tidy c.args.acts c.requires.acts
    c.outs_by_act.new.ss c.in_ok-outs.outs c.in_ok-outs.ensures.is c.leaf.new.self h.0 r h.1 h.2) c.leaf.ensures.ok
