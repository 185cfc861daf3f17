use Rattle.std.proofs.Common.{take, subst}
use Rattle.nk_apply.specs.Unions.{outs_in_turn}
use Rattle.nk_steps.specs.ByAct.{AreActsOf}
use Rattle.nk_steps.proofs.ByActs.{leaves_more, turn_on}
use Rattle.nk_steps.proofs.by_act.acts_of.Goals as goal

pub loop-d-preserved : goal.loop-d-preserved
loop-d-preserved c = record {
  leaves = leaves_more c.args.st.now c.args.diagrams.now c.loop-d.d-index c.d-item.result c.loop-d-test.true c.d-item.is c.loop-d.invariant.leaves (c.in_ok-add_acts_of.ensures.leaf c.if-not-branch.false);
  acts = subst (λ os. AreActsOf os c.add_acts_of.new.acts) (turn_on c.args.st.now c.args.diagrams.now c.loop-d.d-index c.d-item.result c.loop-d-test.true c.d-item.is)
      (c.in_ok-add_acts_of.ensures.acts c.if-not-branch.false (outs_in_turn c.args.st.now (take c.loop-d.d-index c.args.diagrams.now)) c.loop-d.invariant.acts);
}
