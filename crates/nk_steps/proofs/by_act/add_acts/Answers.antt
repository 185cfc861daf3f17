use Rattle.nk_steps.proofs.ByActs.{acts_more}
use Rattle.nk_steps.proofs.by_act.add_acts.Goals as goal

pub loop-o-preserved : goal.loop-o-preserved
loop-o-preserved c =
    acts_more c.args.acts.now c.loop-o.acts c.add_act.new.acts c.args.outs.now c.loop-o.o-index c.o-item.result c.loop-o-test.true c.o-item.is c.loop-o.invariant
    (c.in_ok-add_act.ensures c.if-not-branch.false)
