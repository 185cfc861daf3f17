use Rattle.std.proofs.Common.{arith}
use Rattle.nk_auto.proofs.DrawnAssignments.{assignment_there}
use Rattle.nk_auto.proofs.assignments.remembered.Goals as goal

pub returns-then-is_for : goal.returns-then-is_for
returns-then-is_for c = λ st a.
    assignment_there st c.args.drawn.now c.entry-item.result c.loop-entry.entry-index c.args.f c.args.n (omega (arith, c.loop-entry-test.true)) c.entry-item.is
    (c.is_for.ensures.field c.if-is_for.true) (c.is_for.ensures.value c.if-is_for.true) a
