use Rattle.std.proofs.Common.{◌≡◌, ◌∙◌, sym, subst, ap, List}
use Rattle.std.specs.List.{flat_map}
use Rattle.nk_sim.specs.declared.transit.Crossing.{Crossing}
use Rattle.nk_sim.specs.declared.transit.Flying.{Flying}
use Rattle.nk_sim.specs.Flights.{HaveTrails, AreCrossed, sent_flying, left_by_hops}
use Rattle.nk_sim.specs.Traces.{histories_after}
use Rattle.nk_sim.proofs.Steps.{sent_trails, waits_next, leave_after, all_next}
use Rattle.nk_sim.proofs.tracing.step.Goals as goal

pub leave-requires : goal.leave-requires
leave-requires c =
    let t = c.args.t.now in
    let k = c.args.k in
    let cs = c.args.state.crossings.items in
    let fs = c.args.state.waiting.items in
    let sent : c.as_slice-3.result.now ≡ flat_map (sent_flying t) fs =
    c.as_slice-3.ensures.value ∙ c.in_ok-sent.ensures ∙ ap (flat_map (sent_flying t)) c.as_slice.ensures.value in
    subst (λ (l : List Crossing). HaveTrails l k c.as_slice-3.result.now) (sym c.as_slice-2.ensures.value)
    (subst (HaveTrails cs k) (sym sent) (sent_trails t cs k fs c.requires.trails))

pub returns : goal.returns
returns c = λ pk is.
    let t = c.args.t.now in
    let k = c.args.k in
    let cs = c.args.state.crossings.items in
    let ds = c.cross.new.crossings.items in
    let fs = c.args.state.waiting.items in
    let sent = c.in_ok-sent.sent.items in
    let next = c.in_ok-waiting.waiting.items in
    let e : sent ≡ flat_map (sent_flying t) fs = c.in_ok-sent.ensures ∙ ap (flat_map (sent_flying t)) c.as_slice.ensures.value in
    let left : c.in_ok-left.left.items ≡ histories_after t k pk =
    c.in_ok-left.ensures
    ∙ (λ i. flat_map (left_by_hops t (c.as_slice-2.ensures.value i) k) (c.as_slice-3.ensures.value i))
    ∙ leave_after t pk k cs fs sent is.waits e in
    let so_far = c.in_ok-histories.ensures in
    let both = all_next t pk k c.args.state.histories.items c.in_ok-left.left.items so_far.0 c.in_ok-histories.histories.items is.all is.ordered left so_far.1 so_far.2 in
    record {
      waits = waits_next t pk k cs ds fs sent next is.waits e
          (subst (λ (l : List Flying). HaveTrails cs k l → AreCrossed t cs ds k l next) c.as_slice-4.ensures.value (c.in_ok-waiting.ensures k));
      all = both.0;
      ordered = both.1;
    }
