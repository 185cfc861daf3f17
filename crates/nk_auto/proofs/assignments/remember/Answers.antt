use Rattle.std.proofs.lemmas.Result.{on_ok_weaker}
use Rattle.nk_auto.proofs.DrawnAssignments.{assignments_more}
use Rattle.nk_auto.proofs.assignments.remember.Goals as goal

pub returns : goal.returns
returns c = on_ok_weaker c.push.result
    (λ pushed st a one. assignments_more st (c.args.f, c.args.n) c.args.d c.args.drawn.now c.push.new.self pushed a one) c.push.ensures.ok
