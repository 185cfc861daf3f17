use Rattle.std.proofs.Common.{subst}
use Rattle.std.proofs.lemmas.List.{take_all}
use Rattle.nk_sim.specs.Flights.{AreCrossed}
use Rattle.nk_sim.proofs.Trails.{crossed_more}
use Rattle.nk_sim.proofs.transit.cross.Goals as goal

pub loop-copy-preserved : goal.loop-copy-preserved
loop-copy-preserved c = λ k h.
    crossed_more c.args.t.now c.args.crossings.now.items c.loop-copy.crossings.items c.cross_one.new.crossings.items k c.loop-copy.copy-index c.args.sent.now
    c.loop-copy.next.items c.cross_one.new.next.items c.copy-item.result c.loop-copy-test.true c.copy-item.is h (c.loop-copy.invariant k h)
    c.in_ok-cross_one.ensures.crossings c.in_ok-cross_one.ensures.next

pub returns : goal.returns
returns c = λ k h.
    subst (λ l. AreCrossed c.args.t.now c.args.crossings.now.items c.loop-copy.crossings.items k l c.loop-copy.next.items)
    (take_all c.loop-copy.copy-index c.args.sent.now c.loop-copy-test.false) (c.loop-copy.invariant k h)
