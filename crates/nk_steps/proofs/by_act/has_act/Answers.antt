use Rattle.std.proofs.Common.{sym, ◌∙◌}
use Rattle.nk_steps.proofs.ByActs.{act_there}
use Rattle.nk_steps.proofs.by_act.has_act.Goals as goal

pub returns-then-eq : goal.returns-then-eq
returns-then-eq c = λ _. act_there c.args.acts.now c.a-item.result c.args.act.now c.loop-a.a-index c.loop-a-test.true c.a-item.is (sym c.eq.ensures ∙ c.if-eq.true)
