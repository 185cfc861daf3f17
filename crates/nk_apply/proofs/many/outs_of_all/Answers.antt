use Rattle.std.proofs.Common.{◌∙◌}
use Rattle.std.proofs.lemmas.List.{get_or_default}
use Rattle.nk_apply.proofs.AtOnce.{turn_more}
use Rattle.nk_apply.proofs.many.outs_of_all.Goals as goal

pub loop-i-preserved : goal.loop-i-preserved
loop-i-preserved c =
    turn_more c.args.st.now c.args.ds.now c.loop-i.i c.index-ds-i.result c.push_outs.new.all c.loop-i.all c.loop-i-test.true
    (c.index-ds-i.is ∙ get_or_default c.args.ds.now c.loop-i.i c.index-ds-i.result 0 c.loop-i-test.true) c.loop-i.invariant c.in_ok-push_outs.ensures
