use Rattle.std.proofs.Common.{sym, ◌∙◌, ◌++◌}
use Rattle.std.specs.Prelude.{map}
use Rattle.nk_sim.specs.Flights.{sent_flying}
use Rattle.nk_sim.proofs.Trails.{joined_more}
use Rattle.nk_sim.proofs.transit.send.Goals as goal

pub loop-copy-preserved : goal.loop-copy-preserved
loop-copy-preserved c =
    c.in_ok-push_sent.ensures
    ∙ (λ i. c.loop-copy.invariant i ++ map (λ y. record { last = c.copy-item.result.last; packet = y }) ((c.as_slice.ensures.value ∙ c.in_ok-packets.ensures) i))
    ∙ sym (joined_more (sent_flying c.args.t.now) c.args.waiting.now c.loop-copy.copy-index c.copy-item.result c.loop-copy-test.true c.copy-item.is)
