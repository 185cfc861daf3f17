use Rattle.std.proofs.Common.{◌≡◌, ℕ, ◌-◌, ◌<◌, ⊎_elim, List, length, sym, ap, subst, ◌∙◌, arith}
use Rattle.std.specs.Prelude.{slice_index}
use Rattle.std.proofs.lemmas.Result.{on_ok_weaker}
use Rattle.nk_flight.specs.Updates.{Stages, UpdateState, UpdateEvent, after_update, state_in, planned}
use Rattle.nk_flight.specs.UpdateDraws.{those_that_may, Wait}
use Rattle.nk_flight.proofs.WaitingSwitches.{same_wait, takes_inject, takes_move, takes_plan, plan_there}
use Rattle.nk_flight.proofs.Turns.{move_done}
use Rattle.nk_flight.proofs.drawn_updates.turn.Goals as goal

pub returns-in_ok-_number-clause-flight : goal.returns-in_ok-_number-clause-flight
returns-in_ok-_number-clause-flight c =
    let g = c.args.flight.now.stages in
    let s : UpdateState = state_in c.args.flight.now in
    let pk = c.args.packet.now in
    let e = takes_inject g pk s c.len-copies.result c.that_may-may.result c.args.draw c.drawn_place-at.result c.len-copies.ensures c.that_may-may.ensures.many c.drawn_place-at.ensures c.if-at-eq0.true in
    let b = c.in_ok-_number.ensures.ok in
    (b.0, b.1 ∙ ap (λ (v : UpdateEvent). after_update g v s) (sym e))

pub returns-in_ok-_number-clause-wait : goal.returns-in_ok-_number-clause-wait
returns-in_ok-_number-clause-wait c =
    let g = c.args.flight.now.stages in
    let s : UpdateState = state_in c.args.flight.now in
    let t : UpdateState = state_in c.inject.new.self in
    let w = c.args.waiting.now in
    let b = c.in_ok-_number.ensures.ok in
    let h = same_wait g s t w (ap (λ (u : UpdateState). u.done) b.1) c.requires.wait in
    subst (λ (k : Stages). Wait k t w) (sym b.0) h

pub returns-then-at-copies-clause-flight : goal.returns-then-at-copies-clause-flight
returns-then-at-copies-clause-flight c =
    let g = c.args.flight.now.stages in
    let s : UpdateState = state_in c.args.flight.now in
    let pk = c.args.packet.now in
    let at = c.drawn_place-at.result in
    let e = takes_move g pk s c.len-copies.result c.that_may-may.result c.args.draw at c.len-copies.ensures c.that_may-may.ensures.many c.drawn_place-at.ensures c.if-at-eq0.false c.if-at-copies.true in
    on_ok_weaker c.step.result
    (λ b. (b.0, b.1 ∙ ap (λ (v : UpdateEvent). after_update g v s) (sym e))) c.step.ensures.ok

pub returns-then-at-copies-clause-wait : goal.returns-then-at-copies-clause-wait
returns-then-at-copies-clause-wait c =
    let g = c.args.flight.now.stages in
    let s : UpdateState = state_in c.args.flight.now in
    let t : UpdateState = state_in c.step.new.self in
    let w = c.args.waiting.now in
    let i = c.drawn_place-at.result - 1 in
    on_ok_weaker c.step.result
    (λ b. subst (λ (k : Stages). Wait k t w) (sym b.0) (same_wait g s t w (ap (λ (u : UpdateState). u.done) b.1 ∙ move_done g s i) c.requires.wait)) c.step.ensures.ok

pub returns-else-at-copies-clause-flight : goal.returns-else-at-copies-clause-flight
returns-else-at-copies-clause-flight c =
    let g = c.args.flight.now.stages in
    let s : UpdateState = state_in c.args.flight.now in
    let pk = c.args.packet.now in
    let at = c.drawn_place-at.result in
    let n = c.len-copies.result in
    let w = c.args.waiting.now in
    let gt : n < at = omega (arith, c.if-at-copies.false) in
    let there = plan_there g pk s n c.that_may-may.result c.args.draw at c.len-copies.ensures c.that_may-may.ensures.many c.drawn_place-at.ensures gt in
    let may : those_that_may g s ≡ w = ⊎_elim (λ q. q)
    (λ q. let none : length (those_that_may g s) ≡ 0 = ap length q in absurd (omega (arith, there, none, c.that_may-may.ensures.many))) c.that_may-may.ensures.which in
    let e = takes_plan g pk s n c.that_may-may.result c.args.draw at c.len-copies.ensures c.that_may-may.ensures.many c.drawn_place-at.ensures gt in
    on_ok_weaker c.plan_at.result
    (λ b. (b.0, b.1 ∙ ap (λ (l : List ℕ). planned g (slice_index l (at - 1 - n)) s) (sym may) ∙ ap (λ (v : UpdateEvent). after_update g v s) (sym e))) c.plan_at.ensures.flight

pub returns-else-at-copies-clause-wait : goal.returns-else-at-copies-clause-wait
returns-else-at-copies-clause-wait c = c.plan_at.ensures.wait

pub step-requires : goal.step-requires
step-requires c = omega (arith, c.len-copies.ensures, c.if-at-eq0.false, c.if-at-copies.true)

pub plan_at-requires-clause-may : goal.plan_at-requires-clause-may
plan_at-requires-clause-may c =
    let g = c.args.flight.now.stages in
    let s : UpdateState = state_in c.args.flight.now in
    let gt : c.len-copies.result < c.drawn_place-at.result = omega (arith, c.if-at-copies.false) in
    let there = plan_there g c.args.packet.now s c.len-copies.result c.that_may-may.result c.args.draw c.drawn_place-at.result c.len-copies.ensures c.that_may-may.ensures.many c.drawn_place-at.ensures gt in
    ⊎_elim (λ q. q)
    (λ q. let none : length (those_that_may g s) ≡ 0 = ap length q in absurd (omega (arith, there, none, c.that_may-may.ensures.many))) c.that_may-may.ensures.which

pub plan_at-requires-clause-there : goal.plan_at-requires-clause-there
plan_at-requires-clause-there c =
    let g = c.args.flight.now.stages in
    let s : UpdateState = state_in c.args.flight.now in
    let gt : c.len-copies.result < c.drawn_place-at.result = omega (arith, c.if-at-copies.false) in
    let there = plan_there g c.args.packet.now s c.len-copies.result c.that_may-may.result c.args.draw c.drawn_place-at.result c.len-copies.ensures c.that_may-may.ensures.many c.drawn_place-at.ensures gt in
    let many : c.that_may-may.result ≡ length c.args.waiting.now = ⊎_elim (λ q. c.that_may-may.ensures.many ∙ ap length q)
    (λ q. let none : length (those_that_may g s) ≡ 0 = ap length q in absurd (omega (arith, there, none, c.that_may-may.ensures.many))) c.that_may-may.ensures.which in
    omega (arith, there, many)
