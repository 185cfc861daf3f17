use Rattle.std.proofs.Common.{◌≡◌, ◌<◌, [], length, inl, inr, sym, ap, subst, ◌∙◌, cond, true, false, Bool, arith}
use Rattle.std.specs.Prelude.{All, slice_index}
use Rattle.nk_flight.specs.Updates.{UpdateState, state_in, may_plan}
use Rattle.nk_flight.proofs.WaitingSwitches.{no_items, none_may, as_the_first, wait_small}
use Rattle.nk_flight.proofs.drawn_updates.that_may.Goals as goal

pub returns-then-len-eq0-clause-many : goal.returns-then-len-eq0-clause-many
returns-then-len-eq0-clause-many c =
    let w = c.args.waiting.now in
    sym (ap length (none_may c.args.flight.now.stages (state_in c.args.flight.now) w c.requires.wait (no_items w (sym c.len.ensures ∙ c.if-len-eq0.true))))

pub returns-then-len-eq0-clause-which : goal.returns-then-len-eq0-clause-which
returns-then-len-eq0-clause-which c =
    let w = c.args.waiting.now in
    inr (none_may c.args.flight.now.stages (state_in c.args.flight.now) w c.requires.wait (no_items w (sym c.len.ensures ∙ c.if-len-eq0.true)))

pub switch_at-requires-clause-numbers : goal.switch_at-requires-clause-numbers
switch_at-requires-clause-numbers c =
    wait_small c.args.flight.now.stages (state_in c.args.flight.now) c.args.waiting.now c.requires.wait
    (subst (All (λ n. n < 65536)) c.requires.switches c.are_numbers.ensures)

pub returns-then-may_plan-clause-many : goal.returns-then-may_plan-clause-many
returns-then-may_plan-clause-many c =
    let g = c.args.flight.now.stages in
    let s : UpdateState = state_in c.args.flight.now in
    let w = c.args.waiting.now in
    let some : 0 < length w = omega (arith, c.len.ensures, c.if-len-eq0.false) in
    let may : may_plan g s (slice_index w 0) ≡ true = ap (may_plan g s) (sym c.switch_at.ensures) ∙ sym c.may_plan.ensures ∙ c.if-may_plan.true in
    c.len-then-may_plan.ensures ∙ sym (ap length (as_the_first g s w c.requires.wait some ∙ ap (λ (b : Bool). cond b w []) may))

pub returns-then-may_plan-clause-which : goal.returns-then-may_plan-clause-which
returns-then-may_plan-clause-which c =
    let g = c.args.flight.now.stages in
    let s : UpdateState = state_in c.args.flight.now in
    let w = c.args.waiting.now in
    let some : 0 < length w = omega (arith, c.len.ensures, c.if-len-eq0.false) in
    let may : may_plan g s (slice_index w 0) ≡ true = ap (may_plan g s) (sym c.switch_at.ensures) ∙ sym c.may_plan.ensures ∙ c.if-may_plan.true in
    inl (as_the_first g s w c.requires.wait some ∙ ap (λ (b : Bool). cond b w []) may)

pub returns-else-may_plan-clause-many : goal.returns-else-may_plan-clause-many
returns-else-may_plan-clause-many c =
    let g = c.args.flight.now.stages in
    let s : UpdateState = state_in c.args.flight.now in
    let w = c.args.waiting.now in
    let some : 0 < length w = omega (arith, c.len.ensures, c.if-len-eq0.false) in
    let may : may_plan g s (slice_index w 0) ≡ false = ap (may_plan g s) (sym c.switch_at.ensures) ∙ sym c.may_plan.ensures ∙ c.if-may_plan.false in
    sym (ap length (as_the_first g s w c.requires.wait some ∙ ap (λ (b : Bool). cond b w []) may))

pub returns-else-may_plan-clause-which : goal.returns-else-may_plan-clause-which
returns-else-may_plan-clause-which c =
    let g = c.args.flight.now.stages in
    let s : UpdateState = state_in c.args.flight.now in
    let w = c.args.waiting.now in
    let some : 0 < length w = omega (arith, c.len.ensures, c.if-len-eq0.false) in
    let may : may_plan g s (slice_index w 0) ≡ false = ap (may_plan g s) (sym c.switch_at.ensures) ∙ sym c.may_plan.ensures ∙ c.if-may_plan.false in
    inr (as_the_first g s w c.requires.wait some ∙ ap (λ (b : Bool). cond b w []) may)
