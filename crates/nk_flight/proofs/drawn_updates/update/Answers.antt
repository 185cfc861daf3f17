use Rattle.std.proofs.Common.{◌≡◌, ◌∙◌, ◌+◌, ℕ, suc, refl, ap, sym, subst, arith}
use Rattle.nk_field.specs.Lists.{IsWithoutDoubles}
use Rattle.nk_flight.specs.Draws.{next_draw, draw}
use Rattle.nk_flight.specs.Updates.{Stages, UpdateState, stages_of, at_the_start, state_in, switches_in}
use Rattle.nk_flight.specs.UpdateDraws.{turned, after_turns, Wait}
use Rattle.nk_flight.proofs.Counting.{numbers_distinct}
use Rattle.nk_flight.proofs.WaitingSwitches.{all_wait_first}
use Rattle.nk_flight.proofs.drawn_updates.update.Goals as goal

pub turn-requires-clause-switches : goal.turn-requires-clause-switches
turn-requires-clause-switches c = c.switches-switches.ensures.numbers ∙ ap switches_in (sym c.loop-turn.invariant.stages)

pub turn-requires-clause-distinct : goal.turn-requires-clause-distinct
turn-requires-clause-distinct c =
    subst IsWithoutDoubles (sym c.switches-switches.ensures.numbers) (numbers_distinct c.args.plan.now.topo.switches c.switches-switches.ensures.is.switches)

-- before the first turn all switches wait for their first step
pub loop-turn-init : goal.loop-turn-init
loop-turn-init c =
    let g = stages_of c.args.plan.now in
    let all : Wait g (at_the_start g) c.in_ok-waiting.waiting =
    subst (Wait g (at_the_start g)) (sym (c.in_ok-waiting.ensures ∙ c.switches-switches.ensures.numbers)) (all_wait_first g) in
    let with_state : Wait g (state_in c.in_ok-flight.flight) c.in_ok-waiting.waiting =
    subst (λ (s : UpdateState). Wait g s c.in_ok-waiting.waiting) (sym c.in_ok-flight.ensures.state) all in
    record {
      draws = refl;
      stages = c.in_ok-flight.ensures.stages;
      state = c.in_ok-flight.ensures.state;
      wait = subst (λ (h : Stages). Wait h (state_in c.in_ok-flight.flight) c.in_ok-waiting.waiting) (sym c.in_ok-flight.ensures.stages) with_state;
    }

pub loop-turn-preserved : goal.loop-turn-preserved
loop-turn-preserved c =
    let g = stages_of c.args.plan.now in
    let start = at_the_start g in
    let seed = c.args.seed in
    let pk = c.args.packet.now in
    let n = c.loop-turn._turn in
    let more : suc n ≡ n + 1 = omega arith in
    let drawn : c.next_draw-draw.result ≡ draw seed (suc n) = c.next_draw-draw.ensures.value ∙ ap next_draw c.loop-turn.invariant.draws in
    record {
      draws = drawn ∙ ap (draw seed) more;
      stages = c.in_ok-turn.ensures.flight.0 ∙ c.loop-turn.invariant.stages;
      state =
          c.in_ok-turn.ensures.flight.1
          ∙ (λ j. turned (drawn j) (c.loop-turn.invariant.stages j) pk (c.loop-turn.invariant.state j))
          ∙ ap (λ (k : ℕ). after_turns g seed k pk start) more;
      wait = c.in_ok-turn.ensures.wait;
    }
