use Rattle.std.proofs.Common.{◌≡◌, ◌∙◌, ◌%◌, ◌+◌, suc, ap, sym, length, arith}
use Rattle.nk_flight.specs.Draws.{next_draw, draw, handled_by_draw, after_draws}
use Rattle.nk_flight.specs.Flights.{FlightState, injected, nothing_in_flight, stepped}
use Rattle.nk_flight.proofs.Draws.{idle_to}
use Rattle.nk_flight.proofs.drawn.fly.Goals as goal

pub returns-then-len-eq0 : goal.returns-then-len-eq0
returns-then-len-eq0 c =
    let start = injected c.args.p.now (nothing_in_flight c.args.t.now) in
    let n = c.loop-step._step in
    let none : length (after_draws c.args.seed n start).flying ≡ 0 =
    ap (λ (s : FlightState). length s.flying) (sym c.loop-step.invariant.steps) ∙ sym c.len.ensures ∙ c.if-len-eq0.true in
    c.loop-step.invariant.steps ∙ idle_to c.args.seed n c.args.steps start (omega arith) none

pub loop-step-preserved : goal.loop-step-preserved
loop-step-preserved c =
    let start = injected c.args.p.now (nothing_in_flight c.args.t.now) in
    let seed = c.args.seed in
    let n = c.loop-step._step in
    let more : suc n ≡ n + 1 = omega arith in
    let drawn : c.next_draw-draw.result ≡ draw seed (suc n) = c.next_draw-draw.ensures.value ∙ ap next_draw c.loop-step.invariant.draws in
    record {
      draws = drawn ∙ ap (draw seed) more;
      steps =
          c.in_ok-step.ensures.ok
          ∙ (λ j. stepped (drawn j % c.len-in-loop-step.ensures j) c.loop-step.flight)
          ∙ ap (handled_by_draw (draw seed (suc n))) c.loop-step.invariant.steps
          ∙ ap (λ k. after_draws seed k start) more;
    }
