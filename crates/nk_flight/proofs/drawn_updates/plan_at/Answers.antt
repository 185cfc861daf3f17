use Rattle.std.proofs.Common.{◌≡◌, ℕ, ◌<◌, length, sym, ap, subst, ◌∙◌}
use Rattle.std.specs.Prelude.{All, slice_index, remove}
use Rattle.nk_field.specs.Lists.{IsWithoutDoubles}
use Rattle.nk_flight.specs.Updates.{Stages, UpdateState, state_in, may_plan, planned, switches_in}
use Rattle.nk_flight.specs.UpdateDraws.{Wait}
use Rattle.nk_flight.proofs.WaitingSwitches.{waiting_may, wait_small, wait_again, wait_on}
use Rattle.nk_flight.proofs.drawn_updates.plan_at.Goals as goal

pub switch_at-requires-clause-numbers : goal.switch_at-requires-clause-numbers
switch_at-requires-clause-numbers c =
    wait_small c.args.flight.now.stages (state_in c.args.flight.now) c.args.waiting.now c.requires.wait
    (subst (All (λ n. n < 65536)) c.requires.switches c.are_numbers.ensures)

pub plan_step-requires : goal.plan_step-requires
plan_step-requires c =
    let g = c.args.flight.now.stages in
    let s : UpdateState = state_in c.args.flight.now in
    ap (may_plan g s) c.switch_at.ensures ∙ waiting_may g s c.args.waiting.now c.args.place c.requires.may c.requires.there

pub returns-in_ok-waiting-clause-flight : goal.returns-in_ok-waiting-clause-flight
returns-in_ok-waiting-clause-flight c =
    let g = c.args.flight.now.stages in
    let s : UpdateState = state_in c.args.flight.now in
    (c.plan_step.ensures.0, c.plan_step.ensures.1 ∙ ap (λ (k : ℕ). planned g k s) c.switch_at.ensures)

pub returns-in_ok-waiting-clause-wait : goal.returns-in_ok-waiting-clause-wait
returns-in_ok-waiting-clause-wait c =
    let g = c.args.flight.now.stages in
    let s : UpdateState = state_in c.args.flight.now in
    let t : UpdateState = state_in c.plan_step.new.self in
    let w = c.args.waiting.now in
    let e : t ≡ planned g (slice_index w c.args.place) s = c.plan_step.ensures.1 ∙ ap (λ (k : ℕ). planned g k s) c.switch_at.ensures in
    let distinct : IsWithoutDoubles (switches_in g) = subst IsWithoutDoubles c.requires.switches c.requires.distinct in
    let none : length (remove w c.args.place) ≡ 0 = sym (ap length c.take.ensures) ∙ sym c.len.ensures ∙ c.if-len-eq0.true in
    let all = wait_again g s t w c.args.place distinct c.requires.wait c.requires.there c.requires.may e none in
    let all_now = subst (Wait g t) (sym (c.in_ok-waiting.ensures ∙ c.requires.switches)) all in
    subst (λ (h : Stages). Wait h t c.in_ok-waiting.field-0) (sym c.plan_step.ensures.0) all_now

pub returns-else-len-eq0-clause-flight : goal.returns-else-len-eq0-clause-flight
returns-else-len-eq0-clause-flight c =
    let g = c.args.flight.now.stages in
    let s : UpdateState = state_in c.args.flight.now in
    (c.plan_step.ensures.0, c.plan_step.ensures.1 ∙ ap (λ (k : ℕ). planned g k s) c.switch_at.ensures)

pub returns-else-len-eq0-clause-wait : goal.returns-else-len-eq0-clause-wait
returns-else-len-eq0-clause-wait c =
    let g = c.args.flight.now.stages in
    let s : UpdateState = state_in c.args.flight.now in
    let t : UpdateState = state_in c.plan_step.new.self in
    let w = c.args.waiting.now in
    let e : t ≡ planned g (slice_index w c.args.place) s = c.plan_step.ensures.1 ∙ ap (λ (k : ℕ). planned g k s) c.switch_at.ensures in
    let distinct : IsWithoutDoubles (switches_in g) = subst IsWithoutDoubles c.requires.switches c.requires.distinct in
    let others = wait_on g s t w c.args.place distinct c.requires.wait c.requires.there c.requires.may e
    (λ q. c.if-len-eq0.false (c.len.ensures ∙ ap length c.take.ensures ∙ q)) in
    let others_now = subst (Wait g t) (sym c.take.ensures) others in
    subst (λ (h : Stages). Wait h t c.take.new.self) (sym c.plan_step.ensures.0) others_now
