use Rattle.nk_deriv.proofs.Steps.{copied_push}
use Rattle.nk_deriv.proofs.turns.push_copies.Goals as goal

pub loop-p-preserved : goal.loop-p-preserved
loop-p-preserved c =
    copied_push c.args.ps.now _ c.p-item.result _ _ _ _ c.loop-p-test.true c.p-item.is c.in_ok-push.ensures.items c.in_ok-copy.ensures c.loop-p.invariant
