use Rattle.std.proofs.Common.{◌-◌, [], length}
use Rattle.nk_store.specs.StoreState.{Grows, HasLeaves, look}
use Rattle.nk_star.specs.Steps.{rounds, AreTogether}
use Rattle.nk_star.proofs.Room.{room}
use Rattle.nk_star.proofs.Rounds.{IsFresh}
use Rattle.nk_star.proofs.stars.last_round.Given as goal

abbrev pub invariant-loop-rounds : goal.invariant-loop-rounds
invariant-loop-rounds l = record {
  grows : Grows l.fn.st l.st;
  nothing : HasLeaves l.st l.nothing (λ pk. []);
  all : AreTogether l.st l.all (λ pk. rounds (look l.fn.st l.d) (length l.rounds) pk);
  fresh : IsFresh l.st l.fresh (look l.fn.st l.d) (length l.rounds);
}

abbrev pub decreases-loop-rounds : goal.decreases-loop-rounds
decreases-loop-rounds l = room l.st.maxes - length l.rounds
