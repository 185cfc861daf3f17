use Rattle.std.proofs.Common.{◌≡◌, length}
use Rattle.nk_store.specs.StoreState.{Grows}
use Rattle.nk_compile.specs.WrongEnds.{AreEndsOf}
use Rattle.nk_compile.proofs.EndsOfStates.{HaveSoFar}
use Rattle.nk_compile.proofs.wrong_ends.ends_of.Given as goal

-- the states so far have their diagrams, and so have those in the table
abbrev pub invariant-loop-state : goal.invariant-loop-state
invariant-loop-state l = record {
  grows : Grows l.fn.st l.st;
  seen : AreEndsOf l.st l.set l.seen;
  len : length l.ends ≡ l.state-index;
  ends : HaveSoFar l.st l.set l.states l.ends l.state-index;
}
