use Rattle.std.proofs.Common.{◌≡◌}
use Rattle.nk_flight.specs.Draws.{draw}
use Rattle.nk_flight.specs.Updates.{stages_of, at_the_start, state_in}
use Rattle.nk_flight.specs.UpdateDraws.{after_turns, Wait}
use Rattle.nk_flight.proofs.drawn_updates.update.Given as goal

-- the draws so far, the state after so many turns, and which switches wait
abbrev pub invariant-loop-turn : goal.invariant-loop-turn
invariant-loop-turn l = record {
  draws : l.draw ≡ draw l.seed l._turn;
  stages : l.flight.stages ≡ stages_of l.plan;
  state : state_in l.flight ≡ after_turns (stages_of l.plan) l.seed l._turn l.packet (at_the_start (stages_of l.plan));
  wait : Wait l.flight.stages (state_in l.flight) l.waiting;
}
