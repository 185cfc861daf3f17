use Rattle.std.proofs.Common.{◌≡◌, ◌∙◌, sym, subst, ap, length, List, IfOk, arith}
use Rattle.std.specs.List.{flat_map}
use Rattle.std.proofs.lemmas.Bool.Decides.{nat_tests}
use Rattle.nk_sim.specs.declared.transit.Crossing.{Crossing}
use Rattle.nk_sim.specs.declared.transit.Flying.{Flying}
use Rattle.nk_sim.specs.Flights.{HaveTrails, AreCrossed, AreWaiting, sent_flying, left_by_hops}
use Rattle.nk_sim.proofs.Steps.{sent_trails, waits_next, leave_after, nothing_after}
use Rattle.nk_sim.proofs.tracing.runs.Goals as goal

pub returns-then-is_empty : goal.returns-then-is_empty
returns-then-is_empty c =
    let none : length c.loop-step.waiting.items ≡ 0 = grind (arith, nat_tests, c.is_empty.ensures, c.if-is_empty.true) in
    c.new-then-is_empty.ensures.items
    ∙ nothing_after c.args.t.now c.args.p.now c.loop-step._step c.args.k c.loop-step.crossings.items c.loop-step.waiting.items none c.loop-step.invariant c.loop-step-test.true

pub loop-step-preserved : goal.loop-step-preserved
loop-step-preserved c =
    let t = c.args.t.now in
    let k = c.loop-step._step in
    let cs = c.loop-step.crossings.items in
    let ds = c.cross.new.crossings.items in
    let fs = c.loop-step.waiting.items in
    let sent = c.in_ok-sent.sent.items in
    let next = c.in_ok-waiting-2.waiting.items in
    let e : sent ≡ flat_map (sent_flying t) fs = c.in_ok-sent.ensures ∙ ap (flat_map (sent_flying t)) c.as_slice.ensures.value in
    waits_next t c.args.p.now k cs ds fs sent next c.loop-step.invariant e
    (subst (λ (l : List Flying). HaveTrails cs k l → AreCrossed t cs ds k l next) c.as_slice-in-loop-step.ensures.value (c.in_ok-waiting-2.ensures k))

pub leave-requires : goal.leave-requires
leave-requires c =
    let t = c.args.t.now in
    let k = c.args.k in
    let cs = c.loop-step.crossings.items in
    let fs = c.loop-step.waiting.items in
    let last : c.loop-step._step ≡ k = omega arith in
    let sent : c.as_slice-4.result.now ≡ flat_map (sent_flying t) fs =
    c.as_slice-4.ensures.value ∙ c.in_ok-sent-2.ensures ∙ ap (flat_map (sent_flying t)) c.as_slice-2.ensures.value in
    subst (λ (l : List Crossing). HaveTrails l k c.as_slice-4.result.now) (sym c.as_slice-3.ensures.value)
    (subst (HaveTrails cs k) (sym sent) (sent_trails t cs k fs (subst (λ n. HaveTrails cs n fs) last c.loop-step.invariant.trails)))

pub returns : goal.returns
returns c =
    let t = c.args.t.now in
    let pk = c.args.p.now in
    let k = c.args.k in
    let cs = c.loop-step.crossings.items in
    let fs = c.loop-step.waiting.items in
    let last : c.loop-step._step ≡ k = omega arith in
    let are : AreWaiting t pk k cs fs = subst (λ n. AreWaiting t pk n cs fs) last c.loop-step.invariant in
    let e : c.in_ok-sent-2.sent.items ≡ flat_map (sent_flying t) fs = c.in_ok-sent-2.ensures ∙ ap (flat_map (sent_flying t)) c.as_slice-2.ensures.value in
    subst (λ l. IfOk c.leave.result (λ left. left.items ≡ l))
    ((λ i. flat_map (left_by_hops t (c.as_slice-3.ensures.value i) k) (c.as_slice-4.ensures.value i)) ∙ leave_after t pk k cs fs c.in_ok-sent-2.sent.items are e)
    c.leave.ensures
